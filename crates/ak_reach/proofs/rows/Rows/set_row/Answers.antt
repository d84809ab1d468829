use Rattle.std.proofs.Common.{◌≡◌, OnOk, None, is_some, true≢false, sym, ap, ◌∙◌, subst}
use Rattle.std.specs.FinMap as map
use Rattle.ak_address.specs.Table.{value_with}
use Rattle.ak_address.proofs.TableLemmas.{place_in_range, has_no_place}
use Rattle.ak_member.specs.View.{Row, later_row}
use Rattle.ak_reach.specs.Reach.{is_as_new, with_row}
use Rattle.ak_reach.proofs.ReachLemmas.{row_stays}
use Rattle.ak_reach.proofs.rows.Rows.set_row.Goals as goal

pub returns-then-is_as_new_at-clause-ok : goal.returns-then-is_as_new_at-clause-ok
returns-then-is_as_new_at-clause-ok c =
    sym (row_stays c.args.self.now c.args.observer.now (record { number = c.args.number; subjects = c.args.subjects.now })
    (ap (λ rows. is_as_new (map.get rows c.args.observer.now) c.args.number) (sym c.self.view_is) ∙ sym (c.is_as_new_at.ensures c.args.observer.now c.in-Ok.ensures) ∙ c.if-is_as_new_at.true))

pub set_at-requires : goal.set_at-requires
set_at-requires c = place_in_range c.self.inside.table c.args.observer.now c.in-Ok.place c.in-Ok.ensures

-- an observer that has no row has none that is as new
pub returns-in_err-who-in-Err-clause-kept : goal.returns-in_err-who-in-Err-clause-kept
returns-in_err-who-in-Err-clause-kept c kept =
    absurd (true≢false (sym kept ∙ ap (λ rows. is_as_new (map.get rows c.args.observer.now) c.args.number) (sym c.self.view_is) ∙ ap (λ o. is_as_new o c.args.number) (has_no_place c.self.inside.table c.args.observer.now c.in-Err.place c.in-Err.ensures)))

pub returns-in_err-subjects-in-Err-clause-kept : goal.returns-in_err-subjects-in-Err-clause-kept
returns-in_err-subjects-in-Err-clause-kept c kept =
    absurd (true≢false (sym kept ∙ ap (λ rows. is_as_new (map.get rows c.args.observer.now) c.args.number) (sym c.self.view_is) ∙ ap (λ o. is_as_new o c.args.number) (has_no_place c.self.inside.table c.args.observer.now c.in-Err.place c.in-Err.ensures)))

pub returns-in_ok-subjects-in-Err-clause-kept : goal.returns-in_ok-subjects-in-Err-clause-kept
returns-in_ok-subjects-in-Err-clause-kept c kept =
    absurd (true≢false (sym kept ∙ ap (λ rows. is_as_new (map.get rows c.args.observer.now) c.args.number) (sym c.self.view_is) ∙ ap (λ o. is_as_new o c.args.number) (has_no_place c.self.inside.table c.args.observer.now c.in-Err.place c.in-Err.ensures)))

pub returns-in_ok-subjects-in-Err-clause-ok : goal.returns-in_ok-subjects-in-Err-clause-ok
returns-in_ok-subjects-in-Err-clause-ok c =
    let rows = c.self.inside.table in
    let who = c.args.observer.now in
    let row : Row = record { number = c.args.number; subjects = c.args.subjects.now } in
    let none : map.get rows who ≡ None = has_no_place rows who c.in-Err.place c.in-Err.ensures in
    let as_row = ap (λ o. map.insert rows who (value_with later_row o row)) (sym none) ∙ ap (λ t. with_row t who row) c.self.view_is in
    subst (λ t. OnOk c.insert_at.result (c.insert_at.new.self ≡ t)) as_row
    (subst (λ s. OnOk c.insert_at.result (c.insert_at.new.self ≡ map.insert rows who (record { number = c.args.number; subjects = s }))) (c.in_ok-subjects-in-Err.ensures {u = tt}).ok
    (subst (λ w. OnOk c.insert_at.result (c.insert_at.new.self ≡ map.insert rows w (record { number = c.args.number; subjects = c.in_ok-subjects-in-Err.subjects }))) c.in_ok-who-in-Err.ensures c.insert_at.ensures.ok))

pub returns-in_err-who-in-Err-clause-memory : goal.returns-in_err-who-in-Err-clause-memory
returns-in_err-who-in-Err-clause-memory c there none =
    absurd (true≢false (sym there ∙ ap (λ rows. is_some (map.get rows c.args.observer.now)) (sym c.self.view_is) ∙ ap is_some (has_no_place c.self.inside.table c.args.observer.now c.in-Err.place c.in-Err.ensures)))

pub returns-in_ok-subjects-in-Err-clause-memory : goal.returns-in_ok-subjects-in-Err-clause-memory
returns-in_ok-subjects-in-Err-clause-memory c there none =
    absurd (true≢false (sym there ∙ ap (λ rows. is_some (map.get rows c.args.observer.now)) (sym c.self.view_is) ∙ ap is_some (has_no_place c.self.inside.table c.args.observer.now c.in-Err.place c.in-Err.ensures)))
