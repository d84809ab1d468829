use Rattle.std.proofs.Common.{slice_get, sym, ap, ◌∙◌}
use Rattle.std.specs.FinMap as map
use Rattle.ak_address.proofs.TableLaws.{get_at}
use Rattle.ak_member.specs.Standing.{Standings}
use Rattle.ak_sight.proofs.AlikeLaws.{alike_at}
use Rattle.ak_sight.proofs.sight.is_alike_at.Goals as goal

pub returns-then-is : goal.returns-then-is
returns-then-is c = λ is.
    let v = c.args.one.now.view in
    let w = c.args.other.now.view in
    let at = ap (λ (s : Standings). slice_get (map.entries s) c.args.pair) (sym c.members.ensures) ∙ sym c.in-Some.ensures in
    let other_at = ap (λ (s : Standings). slice_get (map.entries s) c.args.pair) (sym c.members-in-Some.ensures) ∙ sym c.in-Some-pair.ensures in
    let same = c.is.ensures.meaning.0 c.if-is.true in
    let shown = c.is_shown_alike.ensures (get_at v.standings c.args.pair _ at) (ap (map.get w.standings) same ∙ get_at w.standings c.args.pair _ other_at) in
    alike_at v w c.args.pair c.in-Some.who.now c.in-Some-pair.other_who.now c.in-Some.standing c.in-Some-pair.other_standing at other_at same (sym shown ∙ is)
