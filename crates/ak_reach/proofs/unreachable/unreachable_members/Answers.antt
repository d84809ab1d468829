use Rattle.std.proofs.Common.{◌∙◌, ap, arith}
use Rattle.ak_address.specs.Uniques.{has}
use Rattle.ak_member.specs.View.{View}
use Rattle.ak_reach.specs.Unreachable.{unreachable_members}
use Rattle.ak_reach.specs.Walk.{with_all_reported}
use Rattle.ak_address.proofs.Failing.{on_err}
use Rattle.ak_reach.proofs.UnreachableLaws.{some_there, known_ones, found_next, found_end, found_all}
use Rattle.ak_reach.proofs.unreachable.unreachable_members.Goals as goal

pub pairs-init : goal.pairs-init
pairs-init c =
    let v : View = record { standings = c.args.members.now; rows = c.args.rows.now } in
    ap (with_all_reported (has (unreachable_members v)) (known_ones v.standings)) c.empty-them.ensures ∙ found_all v

pub pairs-preserved : goal.pairs-preserved
pairs-preserved c =
    let v : View = record { standings = c.args.members.now; rows = c.args.rows.now } in
    found_next (has (unreachable_members v)) v.standings c.pairs.pair c.pairs.them c.add_unreachable.new.them (unreachable_members v) (c.in_ok-add_unreachable.ensures {u = tt}).ok c.pairs.invariant

pub returns-clause-ok : goal.returns-clause-ok
returns-clause-ok c =
    let v : View = record { standings = c.args.members.now; rows = c.args.rows.now } in
    found_end (has (unreachable_members v)) v.standings c.pairs.pair c.pairs.them (unreachable_members v) (omega arith) c.pairs.invariant

-- where it fails, there is one
pub returns-in_err-add_unreachable-clause-memory : goal.returns-in_err-add_unreachable-clause-memory
returns-in_err-add_unreachable-clause-memory c =
    let v : View = record { standings = c.args.members.now; rows = c.args.rows.now } in
    on_err _ (some_there (unreachable_members v) _ (c.in_err-add_unreachable.ensures {u = tt}).memory)
