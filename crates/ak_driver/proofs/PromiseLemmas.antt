-- What a replay promises where it took no step, and of its source's end.
use Rattle.std.proofs.Common.{inl, inr, ℕ, List, [], Option, None, Some, Err, refl, sym, subst}
use Rattle.std.specs.Prelude.{IfSome}
use Rattle.std.specs.Io.KnownBytes.{IsAtEnd}
use Rattle.ak_outside.specs.declared.status.Status.{Status}
use Rattle.ak_outside.specs.declared.status.Status.TheVariants.{Done, Double, Usage, Configuration, Schedule, Read, Write, Memory, Link, Turns}
use Rattle.ak_driver.specs.declared.replay.Stop.{Stop}
use Rattle.ak_driver.specs.declared.replay.Stop.TheVariants.{Refused, NoMemory}
use Rattle.ak_driver.specs.ReplayText.{IsFirstSteps, at_start}
use Rattle.ak_driver.specs.ReplayPromise.{MayPrint, Prints, Promises, EndsSource}
use Rattle.ak_driver.specs.ReplayContracts.{Ended}
use Rattle.ak_outside.specs.Endings.{Written, memory_line}
use Rattle.ak_driver.proofs.SomeReplay.{some_from}
use Rattle.ak_schedule.specs.Line.{lines}

-- ---- the end of a source
pub ends_source : (status : Status) (left : Option (List ℕ)) → IsAtEnd left → EndsSource status left
ends_source Done left end = end
ends_source Double left end = end
ends_source Usage left end = tt
ends_source Configuration left end = tt
ends_source Schedule left end = tt
ends_source Read left end = tt
ends_source Write left end = tt
ends_source Memory left end = tt
ends_source Link left end = tt
ends_source Turns left end = tt

-- a text that ends so, or a sink that failed
pub written_source : (ends answer : Status) (text : List ℕ) (w0 w1 : ℕ) (old new left : Option (List ℕ)) → EndsSource ends left → Written ends text answer w0 w1 old new → EndsSource answer left
written_source ends answer text w0 w1 old new left so (inl w) = subst (λ (s : Status). EndsSource s left) (sym w.0) so
written_source ends answer text w0 w1 old new left so (inr w) = subst (λ (s : Status). EndsSource s left) (sym w.0) tt

pub stopped_source : (stop : Stop) (line : ℕ) (text : List ℕ) (answer : Status) (w0 w1 : ℕ) (old new left : Option (List ℕ)) → Ended (Err stop) line text answer w0 w1 old new → EndsSource answer left
stopped_source (Refused code) line text answer w0 w1 old new left (inl w) = written_source Schedule answer _ w0 w1 old new left tt w
stopped_source (Refused code) line text answer w0 w1 old new left (inr w) = written_source Memory answer _ w0 w1 old new left tt w
stopped_source NoMemory line text answer w0 w1 old new left w = written_source Memory answer _ w0 w1 old new left tt w

-- whether the source is known or not
pub where_known : (known : Option (List ℕ)) (P : Type 0) → P → IfSome known (λ all. P)
where_known None P so = tt
where_known (Some all) P so = so

pub known_ends : (known left : Option (List ℕ)) (status : Status) → IfSome known (λ all. IsAtEnd left) → IfSome known (λ all. EndsSource status left)
known_ends None left status end = tt
known_ends (Some all) left status end = ends_source status left end

-- ---- nothing was replayed
promises_all : (known left : Option (List ℕ)) (status : Status) (old new : Option (List ℕ)) → ((bytes : List ℕ) → Prints bytes left status old new) → Promises known left status old new
promises_all None left status old new p = tt
promises_all (Some bytes) left status old new p = p bytes

no_steps : (bytes : List ℕ) → IsFirstSteps bytes []
no_steps bytes = let on = some_from (lines bytes) at_start in (on.0, on.1, on.2, 0, refl)

memory_may_print : (bytes : List ℕ) → MayPrint bytes memory_line
memory_may_print bytes = inr (inl ([], no_steps bytes, refl))

pub no_memory : (known left : Option (List ℕ)) (result : Status) (w0 w1 : ℕ) (old new : Option (List ℕ)) → Written Memory memory_line result w0 w1 old new → Promises known left result old new
no_memory known left result w0 w1 old new (inl done) =
    subst (λ (s : Status). Promises known left s old new) (sym done.0) (promises_all known left Memory old new (λ bytes. ([], no_steps bytes, done.2)))
no_memory known left result w0 w1 old new (inr failed) =
    subst (λ (s : Status). Promises known left s old new) (sym failed.0) (promises_all known left Write old new (λ bytes. (memory_line, memory_may_print bytes, failed.2)))
