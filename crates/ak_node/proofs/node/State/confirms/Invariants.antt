use Rattle.std.proofs.Common.{◌≡◌, ◌++◌}
use Rattle.std.specs.FinMap as map
use Rattle.ak_wire.specs.declared.envelope.Message.TheVariants as message
use Rattle.ak_node.specs.Node.{to_process, to_each, counted_members}
use Rattle.ak_node.proofs.SendLemmas.{counted_processes, keeps_processes, left}
use Rattle.ak_node.proofs.node.State.confirms.Given as goal

-- the messages so far, and those to the members that are left
abbrev pub invariant-pairs : goal.invariant-pairs
invariant-pairs l = l.actions ++ left (λ to. to_process l.self to message.ExitingConfirmed) counted_processes keeps_processes (map.entries l.members) l.pair ≡ l.fn.actions ++ to_each l.self (counted_members l.self) message.ExitingConfirmed
