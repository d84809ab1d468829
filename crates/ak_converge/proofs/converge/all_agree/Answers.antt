use Rattle.std.proofs.Common.{◌&&◌, ◌+◌, drop, sym, ap, ◌∙◌, arith}
use Rattle.std.specs.FinMap as map
use Rattle.std.specs.List.{list_all}
use Rattle.ak_member.specs.Standing.{member_pairs}
use Rattle.ak_member.specs.View.{View}
use Rattle.ak_member.proofs.MemberLemmas.{kept_at_end, keeps_members}
use Rattle.ak_reach.specs.Unreachable.{unreachable_members}
use Rattle.ak_converge.specs.Convergence.{agrees}
use Rattle.ak_converge.proofs.ConvergenceLaws.{all_from_index}
use Rattle.ak_converge.proofs.converge.all_agree.Goals as goal

pub returns-then-not-agrees_at : goal.returns-then-not-agrees_at
returns-then-not-agrees_at c =
    let v : View = record { standings = c.args.members.now; rows = c.args.rows.now } in
    let test = agrees (unreachable_members v) c.args.seen.now in
    let es = map.entries c.args.members.now in
    ap (λ b. b && list_all test (member_pairs (drop (c.pairs.pair + 1) es))) (sym c.if-not-agrees_at.true ∙ c.agrees_at.ensures)
    ∙ sym (all_from_index test es c.pairs.pair)
    ∙ c.pairs.invariant

pub pairs-preserved : goal.pairs-preserved
pairs-preserved c =
    let v : View = record { standings = c.args.members.now; rows = c.args.rows.now } in
    let test = agrees (unreachable_members v) c.args.seen.now in
    let es = map.entries c.args.members.now in
    ap (λ b. b && list_all test (member_pairs (drop (c.pairs.pair + 1) es))) (sym c.if-not-agrees_at.false ∙ c.agrees_at.ensures)
    ∙ sym (all_from_index test es c.pairs.pair)
    ∙ c.pairs.invariant

pub returns : goal.returns
returns c =
    let v : View = record { standings = c.args.members.now; rows = c.args.rows.now } in
    let test = agrees (unreachable_members v) c.args.seen.now in
    let es = map.entries c.args.members.now in
    sym (ap (list_all test) (kept_at_end member_pairs keeps_members es c.pairs.pair (let past = map.len-entries c.args.members.now in omega arith))) ∙ c.pairs.invariant
