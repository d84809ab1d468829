use Rattle.std.proofs.Common.{◌≡◌, ◌++◌}
use Rattle.ak_member.proofs.Folds.{keeps_all}
use Rattle.ak_wire.specs.declared.action.Action.TheVariants.{MarginEnd}
use Rattle.ak_node.specs.Node.{ends}
use Rattle.ak_node.proofs.SendLemmas.{left}
use Rattle.ak_node.proofs.node.State.ends.Given as goal

-- the margins told so far, and those that are left
abbrev pub invariant-ended : goal.invariant-ended
invariant-ended l = l.actions ++ left MarginEnd (λ xs. xs) keeps_all l.settled.just_ended l.index ≡ l.fn.actions ++ ends l.self
