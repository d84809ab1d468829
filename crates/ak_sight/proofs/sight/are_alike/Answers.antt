use Rattle.std.proofs.Common.{ap, arith, refl}
use Rattle.std.specs.FinMap as map
use Rattle.ak_member.specs.Standing.{member_pairs}
use Rattle.ak_member.proofs.MemberLemmas.{keeps_members}
use Rattle.ak_sight.specs.Sight.{is_otherwise}
use Rattle.ak_sight.proofs.WalkLemmas.{some_passed, none_left}
use Rattle.ak_sight.proofs.sight.are_alike.Goals as goal

pub pairs-preserved : goal.pairs-preserved
pairs-preserved c =
    let v = c.args.one.now.view in
    let w = c.args.other.now.view in
    let alike = c.if-not-is_alike_at.ensures refl in
    record {
      one = some_passed member_pairs keeps_members (λ m. is_otherwise v w m.0) (map.entries v.standings) c.pairs.pair _ c.pairs.invariant.one alike.0;
      other = some_passed member_pairs keeps_members (λ m. is_otherwise w v m.0) (map.entries w.standings) c.pairs.pair _ c.pairs.invariant.other alike.1;
    }

pub returns : goal.returns
returns c = λ _.
    let v = c.args.one.now.view in
    let w = c.args.other.now.view in
    let one = ap map.len c.members.ensures in
    let other = ap map.len c.members-2.ensures in (
      none_left member_pairs keeps_members (λ m. is_otherwise v w m.0) (map.entries v.standings) c.pairs.pair _ c.pairs.invariant.one (let past = map.len-entries v.standings in omega (arith, c.uniques-pairs.ensures, c.pairs-test.false)),
      none_left member_pairs keeps_members (λ m. is_otherwise w v m.0) (map.entries w.standings) c.pairs.pair _ c.pairs.invariant.other (let past = map.len-entries w.standings in omega (arith, c.uniques-pairs.ensures, c.uniques.ensures, c.if-pairs-uniques.false, c.pairs-test.false)),
    )
