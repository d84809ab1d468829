use Rattle.std.proofs.Common.{arith, ◌++◌, map, ap}
use Rattle.std.proofs.lemmas.Result.{on_ok_weaker}
use Rattle.std.specs.FinMap as finmap
use Rattle.ak_member.specs.Standing.{tombstone_pairs}
use Rattle.ak_member.proofs.MemberLemmas.{keeps_tombstones}
use Rattle.ak_report.specs.ActionText.{tombstone_text}
use Rattle.ak_report.proofs.TextLemmas.{all_left, walk_printed, walk_passed, walk_ended}
use Rattle.ak_report.proofs.report.print_tombstones.Goals as goal
use Rattle.ak_report.proofs.report.print_tombstones.Goals.{in-Some+in_ok-print_separator+in_ok-print_tombstone, in_default}

pub pairs-init : goal.pairs-init
pairs-init c = record {
  few = omega arith;
  so_far = ap (λ text. c.args.out.now.items ++ text) (all_left (map tombstone_text (tombstone_pairs (finmap.entries c.args.members.now))));
}

pub pairs-preserved : goal.pairs-preserved
pairs-preserved c =
    let pairs = finmap.entries c.args.members.now in
    elim c.match-tombstone_pair.branch [
      | in-Some+in_ok-print_separator+in_ok-print_tombstone w ↦
          rw w.out-is
          rw w.printed-is
          record {
            few = omega arith;
            so_far =
                walk_printed tombstone_pairs keeps_tombstones tombstone_text pairs c.pairs.pair c.pairs.printed (w.in-Some.who.now, w.in-Some.confirmed) c.pairs.out.items _ _ _ w.in-Some.ensures
                w.in_ok-print_separator.ensures w.in_ok-print_tombstone.ensures c.pairs.invariant.so_far;
          }
      | in_default w ↦
          rw w.out-is
          rw w.printed-is
          record {
            few = omega arith;
            so_far = walk_passed tombstone_pairs keeps_tombstones tombstone_text pairs c.pairs.pair c.pairs.printed c.pairs.out.items _ w.in_default.ensures c.pairs.invariant.so_far;
          }
    ]

pub returns : goal.returns
returns c =
    let pairs = finmap.entries c.args.members.now in
    let counted = finmap.len-entries c.args.members.now in
    on_ok_weaker c.print_none.result (λ printed. walk_ended tombstone_pairs keeps_tombstones tombstone_text pairs c.pairs.pair c.pairs.printed c.pairs.out.items c.print_none.new.out.items _ (omega arith) printed c.pairs.invariant.so_far) c.print_none.ensures
