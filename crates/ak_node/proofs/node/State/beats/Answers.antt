use Rattle.std.proofs.Common.{◌++◌, [], ◌∷◌, option_to_list, ap, ◌∙◌, arith}
use Rattle.ak_address.specs.Changed.{keys_of}
use Rattle.ak_address.specs.Counters.{Counters}
use Rattle.ak_address.specs.Unique.{UniqueModel}
use Rattle.ak_address.specs.Uniques.{in_order}
use Rattle.ak_address.proofs.UniquesLaws.{length-in_order}
use Rattle.ak_member.proofs.Folds.{keeps_all}
use Rattle.ak_wire.specs.declared.action.Action.{Action}
use Rattle.ak_wire.specs.declared.action.Action.TheVariants as action
use Rattle.ak_wire.specs.declared.envelope.Message.TheVariants as message
use Rattle.ak_node.specs.Node.{to_process, to_each}
use Rattle.ak_reused.specs.Reused.{heartbeat}
use Rattle.ak_node.proofs.SendLemmas.{done_next, done_none, done_all}
use Rattle.ak_node.proofs.node.State.beats.Goals as goal
use Rattle.ak_node.proofs.node.State.beats.Goals.{in-Some+in_ok-beat+in_ok-push, in_default}

pub watched-init : goal.watched-init
watched-init c =
    ap (λ set. c.args.actions.now ++ to_each c.args.self.now (in_order set) message.Heartbeat) (c.watched-watched.ensures ∙ ap (λ (counters : Counters). keys_of counters) c.detector.ensures)

pub watched-preserved : goal.watched-preserved
watched-preserved c =
    let each : UniqueModel → Action = λ to. to_process c.args.self.now to message.Heartbeat in
    let whos = in_order c.watched-watched.result.now in
    elim c.match-at.branch [
      | in-Some+in_ok-beat+in_ok-push w ↦
          done_next each (λ xs. xs) keeps_all whos c.watched.index w.in-Some.to.now c.watched.actions c.match-at.actions _ (ap option_to_list w.in-Some.ensures)
          (w.actions-is ∙ (w.in_ok-push.ensures {u = tt}).ok ∙ ap (λ (a : Action). c.watched.actions ++ a ∷ []) ((w.in_ok-beat.ensures {u = tt}) ∙ ap (λ me. action.Send (heartbeat me w.in-Some.to.now)) w.me.ensures)) c.watched.invariant
      | in_default w ↦ done_none each (λ xs. xs) keeps_all whos c.watched.index c.watched.actions c.match-at.actions _ (ap option_to_list w.in_default.ensures) w.actions-is c.watched.invariant
    ]

pub returns : goal.returns
returns c =
    done_all (λ to. to_process c.args.self.now to message.Heartbeat) (λ xs. xs) keeps_all (in_order c.watched-watched.result.now) c.watched.index c.watched.actions _ (let past = length-in_order c.watched-watched.result.now in let end = c.len-index-end.ensures in let over = c.watched-test.false in omega arith) c.watched.invariant
