-- How far a node has come before its first turn.
use Rattle.std.proofs.Common.{◌≡◌, List, [], Option, Result, Ok, Err, refl, sym, ap, subst, ◌∙◌, arith}
use Rattle.ak_config.specs.declared.config.Config.{Config}
use Rattle.ak_wire.specs.Wire.{put}
use Rattle.ak_turns.specs.declared.end.End.{End}
use Rattle.ak_turns.specs.declared.end.End.TheVariants.{Memory}
use Rattle.ak_turns.specs.declared.happening.Happening.{Happening}
use Rattle.ak_turns.specs.Outside.{Output, Wire}
use Rattle.ak_turns.specs.Steps.{Progress}
use Rattle.ak_turns.specs.Turns.{founds, joins, begins}
use Rattle.ak_turns.specs.NodeRun.{start_of}
use Rattle.ak_turns.specs.TurnsContracts.{TakesSome, Begins}
use Rattle.ak_turns.proofs.StepLemmas.{Halted, come_start, some_ok, some_err, halted_more, stop_here}
use Rattle.ak_turns.proofs.RunLemmas.{some_coming}

begins_halted : (c : Config) (result : Result (Unit {0}) End) (y end : End) (q : Progress) (o0 o : Output) (w0 w : Wire) → result ≡ Err y → y ≡ end → Halted c end o0 w0 (begins c) o w
    → Begins result c q o0 o w0 w
begins_halted c result y end q o0 o w0 w is same h =
    subst (λ (r : Result (Unit {0}) End). Begins r c q o0 o w0 w) (sym is)
    (subst (λ (e : End). Begins (Err e) c q o0 o w0 w) (sym same) (h.steps, h.cut, h.stopped, h.more, h.all, h.one))

-- a list that the first step leaves is that before the second
founded_more : (c : Config) (end : End) (o0 o : Output) (w0 w : Wire) (come : Option Happening) → come ≡ founds c.found → Halted c end o0 w0 (put come []) o w → Halted c end o0 w0 (begins c) o w
founded_more c end o0 o w0 w come is h =
    halted_more c end o0 w0 (put (founds c.found) []) (joins c.join) o w (subst (λ (x : Option Happening). Halted c end o0 w0 (put x []) o w) is h)

-- the founding could not be taken
pub begins_unfounded : (c : Config) (result : Result (Unit {0}) End) (y end : End) (p q r : Progress) (o0 o : Output) (w0 w : Wire) (come : Option Happening)
    → p ≡ start_of c → come ≡ founds c.found → TakesSome come (Err end) p q o0 o w0 w → result ≡ Err y → y ≡ end → Begins result c r o0 o w0 w
begins_unfounded c result y end p q r o0 o w0 w come start is t res same =
    begins_halted c result y end r o0 o w0 w res same
    (founded_more c end o0 o w0 w come is (some_err c o0 o0 o w0 w0 w [] p q come end (come_start c p o0 w0 start) t))

-- there was no memory for the joining
pub begins_starved : (c : Config) (result : Result (Unit {0}) End) (y : End) (p q r : Progress) (o0 o : Output) (w0 w : Wire) (come : Option Happening)
    → p ≡ start_of c → come ≡ founds c.found → TakesSome come (Ok tt) p q o0 o w0 w → result ≡ Err y → y ≡ Memory → Begins result c r o0 o w0 w
begins_starved c result y p q r o0 o w0 w come start is t res same =
    let first = some_ok c o0 o0 o w0 w0 w [] p q come (come_start c p o0 w0 start) t in
    begins_halted c result y Memory r o0 o w0 w res same
    (founded_more c Memory o0 o w0 w come is
    (record { steps = first.0; cut = []; stopped = stop_here c o0 o w0 w first.0 q first.1; more = []; all = sym first.2; one = omega arith }))

-- the joining was taken, or could not be
pub begins_joined : (c : Config) (result : Result (Unit {0}) End) (p q r : Progress) (o0 o o1 : Output) (w0 w w1 : Wire) (come join : Option Happening)
    → p ≡ start_of c → come ≡ founds c.found → join ≡ joins c.join → TakesSome come (Ok tt) p q o0 o w0 w → TakesSome join result q r o o1 w w1 → Begins result c r o0 o1 w0 w1
begins_joined c (Ok u) p q r o0 o o1 w0 w w1 come join start is joined t s =
    let first = some_ok c o0 o0 o w0 w0 w [] p q come (come_start c p o0 w0 start) t in
    let second = some_ok c o0 o o1 w0 w w1 first.0 q r join first.1 s in (
      second.0,
      second.1,
      second.2 ∙ ap (λ (xs : List Happening). put join xs) (first.2 ∙ ap (λ (x : Option Happening). put x []) is) ∙ ap (λ (x : Option Happening). put x (put (founds c.found) [])) joined,
      some_coming o o1 w w1 q r join (Ok tt) s ∙ some_coming o0 o w0 w p q come (Ok tt) t,
    )
begins_joined c (Err end) p q r o0 o o1 w0 w w1 come join start is joined t s =
    let first = some_ok c o0 o0 o w0 w0 w [] p q come (come_start c p o0 w0 start) t in
    let h = some_err c o0 o o1 w0 w w1 first.0 q r join end first.1 s in
    let list = ap (λ (xs : List Happening). put join xs) (first.2 ∙ ap (λ (x : Option Happening). put x []) is) ∙ ap (λ (x : Option Happening). put x (put (founds c.found) [])) joined in
    begins_halted c (Err end) end end r o0 o1 w0 w1 refl refl (subst (λ (xs : List Happening). Halted c end o0 w0 xs o1 w1) list h)
