use Rattle.std.proofs.Common.{◌≡◌, ◌++◌, [], ◌∷◌, ap, ◌∙◌, arith}
use Rattle.std.specs.FinMap as finmap
use Rattle.ak_address.specs.Unique.{UniqueModel}
use Rattle.ak_gossip.specs.Gossip.{GossipState}
use Rattle.ak_member.specs.Standing.{Standings}
use Rattle.ak_wire.specs.declared.action.Action.{Action}
use Rattle.ak_wire.specs.declared.action.Action.TheVariants as action
use Rattle.ak_wire.specs.declared.envelope.Message.TheVariants as message
use Rattle.ak_wire.specs.declared.cover.Cover.{Cover}
use Rattle.ak_node.specs.Node.{to_process, to_each, known}
use Rattle.ak_node.proofs.SendLemmas.{processes_of, counted_processes, keeps_processes, done_next, done_none, done_all}
use Rattle.ak_node.proofs.node.State.confirms.Goals as goal
use Rattle.ak_node.proofs.node.State.confirms.Goals.{in-Some+in_ok-cover+in_ok-around+in_ok-push, in_default}

pub pairs-init : goal.pairs-init
pairs-init c =
    let members : c.members-members.result.now ≡ (known c.args.self.now).view.standings = c.members-members.ensures ∙ ap (λ (g : GossipState). g.view.standings) c.gossip.ensures in
    ap (λ (s : Standings). c.args.actions.now ++ to_each c.args.self.now (counted_processes (finmap.entries s)) message.ExitingConfirmed) members

pub pairs-preserved : goal.pairs-preserved
pairs-preserved c =
    let each : UniqueModel → Action = λ to. to_process c.args.self.now to message.ExitingConfirmed in
    let es = finmap.entries c.members-members.result.now in
    elim c.match-counted_at_pair.branch [
      | in-Some+in_ok-cover+in_ok-around+in_ok-push w ↦
          done_next each counted_processes keeps_processes es c.pairs.pair w.in-Some.to.now c.pairs.actions c.match-counted_at_pair.actions _ (ap processes_of w.in-Some.ensures)
          (w.actions-is ∙ (w.in_ok-push.ensures {u = tt}).ok ∙ ap (λ (a : Action). c.pairs.actions ++ a ∷ []) ((w.in_ok-around.ensures {u = tt}) ∙ ap (λ (cover : Cover). action.Send (record { from = cover.from; to = cover.to; uid = cover.uid; message = message.ExitingConfirmed })) (w.in_ok-cover.ensures {u = tt}))) c.pairs.invariant
      | in_default w ↦ done_none each counted_processes keeps_processes es c.pairs.pair c.pairs.actions c.match-counted_at_pair.actions _ (ap processes_of w.in_default.ensures) w.actions-is c.pairs.invariant
    ]

pub returns : goal.returns
returns c =
    done_all (λ to. to_process c.args.self.now to message.ExitingConfirmed) counted_processes keeps_processes (finmap.entries c.members-members.result.now) c.pairs.pair c.pairs.actions _ (let past = finmap.len-entries c.members-members.result.now in let end = c.uniques-pair-end.ensures in let over = c.pairs-test.false in omega arith) c.pairs.invariant
