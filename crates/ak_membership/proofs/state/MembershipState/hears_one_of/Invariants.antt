use Rattle.std.proofs.Common.{◌≡◌, ◌&&◌, drop}
use Rattle.std.specs.List.{list_any}
use Rattle.std.specs.Prelude.{not}
use Rattle.ak_address.specs.Uniques.{has, those, in_order}
use Rattle.ak_member.specs.Standing.{is_member}
use Rattle.ak_membership.specs.Tick.{silent, lacks}
use Rattle.ak_membership.proofs.state.MembershipState.hears_one_of.Given as goal

-- none so far is a member that is not silent
abbrev pub invariant-subjects : goal.invariant-subjects
invariant-subjects l = lacks (silent l.self) (those l.subjects (is_member l.self.gossip.view.standings)) ≡ list_any (λ who. is_member l.self.gossip.view.standings who && not (has (silent l.self) who)) (drop l.index (in_order l.subjects))
