use Rattle.std.proofs.Common.{ℕ, is_some, option_to_list, slice_get, sym, ap, ◌∙◌}
use Rattle.std.specs.FinMap as map
use Rattle.ak_address.specs.Unique.{UniqueModel}
use Rattle.ak_member.specs.declared.status.Status.{Status}
use Rattle.ak_member.specs.View.{View}
use Rattle.ak_member.proofs.MembersLaws.{member_at_pair}
use Rattle.ak_reach.specs.Unreachable.{unreachable_members}
use Rattle.ak_converge.proofs.TallyLaws.{one_blocks}
use Rattle.ak_converge.proofs.tally.blocks_at.Goals as goal

pub returns-then-not-is_passed_over : goal.returns-then-not-is_passed_over
returns-then-not-is_passed_over c =
    let v : View = record { standings = c.args.members.now; rows = c.args.rows.now } in
    let m : UniqueModel × (Status × ℕ) = (c.in-Some.member.unique.now, (c.in-Some.member.status, c.in-Some.member.up_number)) in
    one_blocks (unreachable_members v) (option_to_list (slice_get (map.entries v.standings) c.args.pair)) m c.is_observed.result c.in-Some.ensures (sym c.if-not-is_passed_over.true ∙ c.is_passed_over.ensures)
    (c.is_observed.ensures.member (ap is_some (member_at_pair v.standings c.args.pair m c.in-Some.ensures)))
