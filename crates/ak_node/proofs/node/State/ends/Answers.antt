use Rattle.std.proofs.Common.{◌++◌, [], ◌∷◌, map, option_to_list, ap, ◌∙◌, arith}
use Rattle.ak_member.proofs.Folds.{keeps_all}
use Rattle.ak_settled.specs.SettledView.{SettledModel}
use Rattle.ak_wire.specs.declared.action.Action.TheVariants.{MarginEnd}
use Rattle.ak_node.proofs.SendLemmas.{done_next, done_none, done_all}
use Rattle.ak_node.proofs.node.State.ends.Goals as goal
use Rattle.ak_node.proofs.node.State.ends.Goals.{in-Some+in_ok-who+in_ok-push, in_default}

pub ended-init : goal.ended-init
ended-init c = ap (λ (s : SettledModel). c.args.actions.now ++ map MarginEnd s.just_ended) c.settled-settled.ensures

pub ended-preserved : goal.ended-preserved
ended-preserved c =
    let whos = c.settled-settled.result.now.just_ended in
    elim c.match-just_ended.branch [
      | in-Some+in_ok-who+in_ok-push w ↦
          done_next MarginEnd (λ xs. xs) keeps_all whos c.ended.index w.in-Some.who.now c.ended.actions c.match-just_ended.actions _ (ap option_to_list w.in-Some.ensures)
          (w.actions-is ∙ (w.in_ok-push.ensures {u = tt}).ok ∙ ap (λ who. c.ended.actions ++ MarginEnd who ∷ []) (w.in_ok-who.ensures {u = tt})) c.ended.invariant
      | in_default w ↦ done_none MarginEnd (λ xs. xs) keeps_all whos c.ended.index c.ended.actions c.match-just_ended.actions _ (ap option_to_list w.in_default.ensures) w.actions-is c.ended.invariant
    ]

pub returns : goal.returns
returns c =
    done_all MarginEnd (λ xs. xs) keeps_all c.settled-settled.result.now.just_ended c.ended.index c.ended.actions _ (let end = c.just_ended_len-index-end.ensures in let over = c.ended-test.false in omega arith) c.ended.invariant
