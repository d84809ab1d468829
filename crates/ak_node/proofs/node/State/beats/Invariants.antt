use Rattle.std.proofs.Common.{◌≡◌, ◌++◌}
use Rattle.ak_address.specs.Uniques.{in_order}
use Rattle.ak_member.proofs.Folds.{keeps_all}
use Rattle.ak_wire.specs.declared.envelope.Message.TheVariants as message
use Rattle.ak_node.specs.Node.{to_process, beats}
use Rattle.ak_node.proofs.SendLemmas.{left}
use Rattle.ak_node.proofs.node.State.beats.Given as goal

-- the heartbeats so far, and those to the members that are left
abbrev pub invariant-watched : goal.invariant-watched
invariant-watched l = l.actions ++ left (λ to. to_process l.self to message.Heartbeat) (λ xs. xs) keeps_all (in_order l.watched) l.index ≡ l.fn.actions ++ beats l.self
