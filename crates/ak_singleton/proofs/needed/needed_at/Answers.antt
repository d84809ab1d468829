use Rattle.std.proofs.Common.{cond, [], ◌∷◌, slice_get, sym, ap, ◌∙◌}
use Rattle.std.specs.FinMap as map
use Rattle.ak_singleton.proofs.NeededLemmas.{needed_pair}
use Rattle.ak_singleton.proofs.needed.needed_at.Goals as goal

pub returns-then-is_needed : goal.returns-then-is_needed
returns-then-is_needed c =
    let who = c.in-Some.who.now in
    ap (λ b. cond b (who ∷ []) []) (sym c.if-is_needed.true)
    ∙ needed_pair c.args.margin c.args.settled.now.view c.args.pair who c.in-Some.standing c.finished.result c.is_needed.result
    (sym (c.in-Some.ensures ∙ ap (λ s. slice_get (map.entries s) c.args.pair) c.members.ensures)) c.finished.ensures c.is_needed.ensures

pub returns-else-is_needed : goal.returns-else-is_needed
returns-else-is_needed c =
    let who = c.in-Some.who.now in
    ap (λ b. cond b (who ∷ []) []) (sym c.if-is_needed.false)
    ∙ needed_pair c.args.margin c.args.settled.now.view c.args.pair who c.in-Some.standing c.finished.result c.is_needed.result
    (sym (c.in-Some.ensures ∙ ap (λ s. slice_get (map.entries s) c.args.pair) c.members.ensures)) c.finished.ensures c.is_needed.ensures
