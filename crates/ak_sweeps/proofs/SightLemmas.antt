-- The processes that run, after one more node has started.
use Rattle.std.proofs.Common.{◌≡◌, Bool, true, false, cond, List, [], ◌∷◌, ◌++◌, map, sym, ap, ◌∙◌, append-nil}
use Rattle.std.specs.List.{filter}
use Rattle.std.proofs.lemmas.List.{map-append}
use Rattle.std.proofs.lemmas.List.Elements.{filter-append}
use Rattle.std.proofs.lemmas.List.Sums.{fold-append}
use Rattle.ak_address.specs.Unique.{UniqueModel}
use Rattle.ak_address.specs.Uniques.{no_one, with_one, set_of}
use Rattle.ak_address.proofs.CountersLaws.{set_walked}
use Rattle.ak_node.specs.declared.node.State.{State}
use Rattle.ak_node.specs.Node.{me_of}
use Rattle.ak_sweeps.specs.GeneratedRun.{running}

set_of-push : (whos : List UniqueModel) (who : UniqueModel) → set_of (whos ++ who ∷ []) ≡ with_one (set_of whos) who
set_of-push whos who = sym (set_walked (whos ++ who ∷ [])) ∙ fold-append with_one no_one whos (who ∷ []) ∙ ap (λ s. with_one s who) (set_walked whos)

pub running-push : (nodes : List State) (n : State) (b : Bool) → n.runs ≡ b → running (nodes ++ n ∷ []) ≡ cond b (with_one (running nodes) (me_of n)) (running nodes)
running-push nodes n b runs =
    ap (λ ns. set_of (map me_of ns)) (filter-append (λ (m : State). m.runs) nodes (n ∷ []) ∙ ap (λ x. filter (λ (m : State). m.runs) nodes ++ cond x (n ∷ []) []) runs)
    ∙ by_case b
  where
    by_case : (x : Bool) → set_of (map me_of (filter (λ (m : State). m.runs) nodes ++ cond x (n ∷ []) [])) ≡ cond x (with_one (running nodes) (me_of n)) (running nodes)
    by_case true = ap set_of (map-append me_of (filter (λ (m : State). m.runs) nodes) (n ∷ [])) ∙ set_of-push (map me_of (filter (λ (m : State). m.runs) nodes)) (me_of n)
    by_case false = ap (λ ns. set_of (map me_of ns)) (append-nil (filter (λ (m : State). m.runs) nodes))
