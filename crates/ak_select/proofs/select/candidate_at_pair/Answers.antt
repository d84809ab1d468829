use Rattle.std.proofs.Common.{◌≡◌, ℕ, Bool, true, false, refl, not, ◌&&◌, [], ◌∷◌, cond, is_some, option_copied, option_to_list, slice_get, sym, ap, ◌∙◌}
use Rattle.std.specs.FinMap as map
use Rattle.ak_address.specs.Unique.{UniqueModel}
use Rattle.ak_member.specs.declared.status.Status.{Status}
use Rattle.ak_member.specs.View.{View}
use Rattle.ak_member.proofs.MembersLaws.{member_at_pair}
use Rattle.ak_select.specs.Select.{is_reachable_other}
use Rattle.ak_select.proofs.SelectLemmas.{candidate_is}
use Rattle.ak_select.proofs.select.candidate_at_pair.Goals as goal
use Rattle.ak_select.proofs.select.candidate_at_pair.Goals.{else-not-is_passed_over-via-then-not-is_passed_over+else-is_reachable_other, else-not-is_passed_over-via-else-not-is_passed_over}

pub returns-then-is_reachable_other : goal.returns-then-is_reachable_other
returns-then-is_reachable_other c =
    let v : View = record { standings = c.args.members.now; rows = c.args.rows.now } in
    let m : UniqueModel × (Status × ℕ) = (c.in-Some.member.unique.now, (c.in-Some.member.status, c.in-Some.member.up_number)) in
    let is_member = ap is_some (member_at_pair v.standings c.args.pair m c.in-Some.ensures) in
    (λ i. cond (sym c.if-is_reachable_other.true i && not (sym c.if-not-is_passed_over.true i)) (m.0 ∷ []) [])
    ∙ candidate_is v c.args.me.now (option_copied c.args.seen) (option_to_list (slice_get (map.entries v.standings) c.args.pair)) m c.is_reachable_other.result c.is_passed_over.result c.in-Some.ensures (c.is_reachable_other.ensures is_member)
    c.is_passed_over.ensures

-- whoever is passed over is no candidate, reachable or not
none_passed : (reached : Bool) (who : UniqueModel) → [] ≡ cond (reached && not true) (who ∷ []) []
none_passed true who = refl
none_passed false who = refl

pub returns-else-not-is_passed_over : goal.returns-else-not-is_passed_over
returns-else-not-is_passed_over c =
    let v : View = record { standings = c.args.members.now; rows = c.args.rows.now } in
    let m : UniqueModel × (Status × ℕ) = (c.in-Some.member.unique.now, (c.in-Some.member.status, c.in-Some.member.up_number)) in
    let is_member = ap is_some (member_at_pair v.standings c.args.pair m c.in-Some.ensures) in
    let candidate = candidate_is v c.args.me.now (option_copied c.args.seen) (option_to_list (slice_get (map.entries v.standings) c.args.pair)) m in
    elim c.else-not-is_passed_over.branch [
      | else-not-is_passed_over-via-then-not-is_passed_over+else-is_reachable_other w ↦
          (λ i. cond (sym w.if-is_reachable_other.false i && not (sym w.if-not-is_passed_over.true i)) (m.0 ∷ []) [])
          ∙ candidate w.is_reachable_other.result c.is_passed_over.result c.in-Some.ensures (w.is_reachable_other.ensures is_member) c.is_passed_over.ensures
      | else-not-is_passed_over-via-else-not-is_passed_over w ↦
          none_passed (is_reachable_other v c.args.me.now m.0) m.0
          ∙ ap (λ (b : Bool). cond (is_reachable_other v c.args.me.now m.0 && not b) (m.0 ∷ []) []) (sym w.if-not-is_passed_over.false)
          ∙ candidate (is_reachable_other v c.args.me.now m.0) c.is_passed_over.result c.in-Some.ensures refl c.is_passed_over.ensures
    ]
