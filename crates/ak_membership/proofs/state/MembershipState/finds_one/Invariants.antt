use Rattle.std.proofs.Common.{◌≡◌, ◌&&◌, drop}
use Rattle.std.specs.List.{list_any}
use Rattle.std.specs.Prelude.{not}
use Rattle.ak_address.specs.Changed.{keys_of}
use Rattle.ak_address.specs.Uniques.{has, in_order}
use Rattle.ak_membership.specs.Tick.{silent, own_subjects, lacks}
use Rattle.ak_membership.proofs.state.MembershipState.finds_one.Given as goal

-- none so far is silent without being named
abbrev pub invariant-indices : goal.invariant-indices
invariant-indices l = lacks (own_subjects l.self) (silent l.self) ≡ list_any (λ who. has (silent l.self) who && not (has (own_subjects l.self) who)) (drop l.index (in_order (keys_of l.self.detector)))
