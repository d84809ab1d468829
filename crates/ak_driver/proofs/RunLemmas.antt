-- What is so of the words that were collected is so of the words of known arguments.
use Rattle.std.proofs.Common.{◌≡◌, ℕ, List, Option, None, Some, refl, subst, sym, inl, inr}
use Rattle.std.specs.Prelude.{IfSome}
use Rattle.ak_outside.specs.declared.status.Status.{Status}
use Rattle.ak_outside.specs.declared.status.Status.TheVariants.{Usage, Memory}
use Rattle.ak_address.specs.Unique.{AddressModel}
use Rattle.ak_options.specs.declared.command.Request.{Request}
use Rattle.ak_outside.specs.declared.folder.MemoryFile.{MemoryFile}
use Rattle.ak_turns.specs.Control.{WritesLine, ControlCause}
use Rattle.ak_turns.specs.NodePromise.{NodeCause}
use Rattle.ak_turns.specs.Outside.{Output, Wire}
use Rattle.ak_sweeps.proofs.LineLaws.{keeps_apart}
use Rattle.ak_sweeps.proofs.WriteLoop.{starved, completed}
use Rattle.ak_outside.specs.Endings.{Written, memory_line}
use Rattle.ak_driver.specs.StatusContracts.{AsksReplay, AsksSweep, AsksOther, Swept, RanNode, Asked, RefusesWords, usage_line}
use Rattle.ak_driver.specs.WordsContracts.{words_of, NamesCommand}

-- by what is so where they ask for a replay
pub where_asked : (known : Option (List (List ℕ))) (words : List (List ℕ)) (P : Type 0) →
    IfSome known (λ all. words ≡ words_of all) → (AsksReplay words → P) → IfSome known (λ all. AsksReplay (words_of all) → P)
where_asked None words P are so = tt
where_asked (Some all) words P are so = λ asks. so (subst AsksReplay (sym are) asks)

-- by what is so where they ask for something else
pub where_not_asked : (known : Option (List (List ℕ))) (words : List (List ℕ)) (P : Type 0) →
    IfSome known (λ all. words ≡ words_of all) → ((AsksReplay words → ⊥) → P) → IfSome known (λ all. (AsksReplay (words_of all) → ⊥) → P)
where_not_asked None words P are so = tt
where_not_asked (Some all) words P are so = λ other. so (λ asks. other (subst AsksReplay are asks))

pub always : (known : Option (List (List ℕ))) (P : Type 0) → P → IfSome known (λ all. AsksReplay (words_of all) → P)
always None P so = tt
always (Some all) P so = λ asks. so

-- the same of a sweep, by what the words ask it for
pub where_swept : (known : Option (List (List ℕ))) (words : List (List ℕ)) (P : ℕ → ℕ → ℕ → Type 0) →
    IfSome known (λ all. words ≡ words_of all) → ((first count events workers : ℕ) → AsksSweep words first count events workers → P first count events)
    → IfSome known (λ all. (first count events workers : ℕ) → AsksSweep (words_of all) first count events workers → P first count events)
where_swept None words P are so = tt
where_swept (Some all) words P are so = λ first count events workers asks. so first count events workers (subst (λ ws. AsksSweep ws first count events workers) (sym are) asks)

-- whatever the words are, by what is so of them
pub where_words : (known : Option (List (List ℕ))) (words : List (List ℕ)) (P : List (List ℕ) → Type 0) → IfSome known (λ all. words ≡ words_of all) → P words → IfSome known (λ all. P (words_of all))
where_words None words P are so = tt
where_words (Some all) words P are so = subst P are so

pub whichever : (known : Option (List (List ℕ))) (P : List (List ℕ) → Type 0) → ((words : List (List ℕ)) → P words) → IfSome known (λ all. P (words_of all))
whichever None P so = tt
whichever (Some all) P so = so (words_of all)

-- there was no memory for the words of a sweep
pub unswept : (known : Option (List (List ℕ))) (answer : Status) (w0 w1 : ℕ) (old new : Option (List ℕ)) → Written Memory memory_line answer w0 w1 old new
    → IfSome known (λ all. (first count events workers : ℕ) → AsksSweep (words_of all) first count events workers → Swept first count events answer w0 w1 old new)
unswept None answer w0 w1 old new so = tt
unswept (Some all) answer w0 w1 old new so = λ first count events workers asks.
    let sweep = starved first count events answer w0 w1 old new so in
    record { sweep = sweep; apart = λ lines are index line at. keeps_apart _ _ line (are.each index line at); complete = completed first count events answer w0 w1 old new sweep }

other_too : (words others : List (List ℕ)) → words ≡ others → AsksOther others → AsksOther words
other_too words others are other = subst AsksOther (sym are) other

pub refused : (known : Option (List (List ℕ))) (words : List (List ℕ)) (answer : Status) (w0 w1 : ℕ) (old new : Option (List ℕ)) →
    IfSome known (λ all. words ≡ words_of all) → (AsksOther words → Written Usage usage_line answer w0 w1 old new) →
    IfSome known (λ all. AsksOther (words_of all) → RefusesWords (words_of all) answer w0 w1 old new)
refused None words answer w0 w1 old new are so = tt
refused (Some all) words answer w0 w1 old new are so = λ other. inl (so (other_too words (words_of all) are other))

-- the words were not looked at but for the first one
pub refused_at_once : (known : Option (List (List ℕ))) (answer : Status) (w0 w1 : ℕ) (old new : Option (List ℕ)) → Written Usage usage_line answer w0 w1 old new →
    IfSome known (λ all. AsksOther (words_of all) → RefusesWords (words_of all) answer w0 w1 old new)
refused_at_once None answer w0 w1 old new so = tt
refused_at_once (Some all) answer w0 w1 old new so = λ other. inl so

pub not_held : (known : Option (List (List ℕ))) (answer : Status) (w0 w1 : ℕ) (old new : Option (List ℕ)) →
    IfSome known (λ all. NamesCommand (words_of all)) → Written Memory memory_line answer w0 w1 old new →
    IfSome known (λ all. AsksOther (words_of all) → RefusesWords (words_of all) answer w0 w1 old new)
not_held None answer w0 w1 old new names so = tt
not_held (Some all) answer w0 w1 old new names so = λ other. inr (names, so)

-- ---- there was no memory for a text in the words, or for the words
-- a node that found none
pub no_texts_node : (files : Option (List MemoryFile)) (config : List ℕ) (ticks : ℕ) (answer : Status) (f : ℕ) (o0 o1 : Output) (w : Wire) (l : ℕ) (readings : Option (ℕ → ℕ)) → WritesLine Memory memory_line answer o0 o1
    → RanNode files config ticks answer f f o0 o1 w w l l readings
no_texts_node files config ticks answer f o0 o1 w l readings (inl done) = record {
  cause = subst (λ (s : Status). NodeCause s f f o0.faults o1.faults l l) (sym done.0) (refl, done.1, refl);
  runs = inr (inl done, refl);
}
no_texts_node files config ticks answer f o0 o1 w l readings (inr failed) = record {
  cause = subst (λ (s : Status). NodeCause s f f o0.faults o1.faults l l) (sym failed.0) failed.1;
  runs = inr (inr failed, refl);
}

-- what asks one and found none
pub no_texts_control : (to : AddressModel) (say : Request) (answer : Status) (o0 o1 : Output) (w : Wire) (l : ℕ) → WritesLine Memory memory_line answer o0 o1 → Asked to say answer o0 o1 w w l l
no_texts_control to say answer o0 o1 w l (inl done) = record {
  cause = subst (λ (s : Status). ControlCause s o0.faults o1.faults l l) (sym done.0) (done.1, refl);
  controls = inr (inl done, refl);
}
no_texts_control to say answer o0 o1 w l (inr failed) = record {
  cause = subst (λ (s : Status). ControlCause s o0.faults o1.faults l l) (sym failed.0) failed.1;
  controls = inr (inr failed, refl);
}
