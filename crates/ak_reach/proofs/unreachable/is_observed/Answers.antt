use Rattle.std.proofs.Common.{◌≡◌, true, false, ◌||◌, ◌+◌, drop, sym, ap, ◌∙◌, arith}
use Rattle.std.specs.FinMap as map
use Rattle.std.specs.List.{list_any}
use Rattle.ak_member.specs.View.{View}
use Rattle.ak_reach.specs.Walk.{row_shows}
use Rattle.ak_reach.proofs.UnreachableLaws.{any_from_index, said_here, said_nowhere, shown_reported, unreachable_if_shown}
use Rattle.ak_reach.proofs.unreachable.is_observed.Goals as goal

-- a row shows the process, and none does
shown : (c : goal.Then-shows_at) → true ≡ list_any (row_shows c.args.members.now c.args.who.now) (map.entries c.args.rows.now)
shown c =
    said_here (row_shows c.args.members.now c.args.who.now) (map.entries c.args.rows.now) c.rows.index (sym c.if-shows_at.true ∙ c.shows_at.ensures) c.rows.invariant

not_shown : (c : goal.After-rows) → false ≡ list_any (row_shows c.args.members.now c.args.who.now) (map.entries c.args.rows.now)
not_shown c =
    said_nowhere (row_shows c.args.members.now c.args.who.now) (map.entries c.args.rows.now) c.rows.index (let past = map.len-entries c.args.rows.now in omega arith) c.rows.invariant

pub returns-then-shows_at-clause-value : goal.returns-then-shows_at-clause-value
returns-then-shows_at-clause-value c = shown c ∙ shown_reported c.args.members.now c.args.rows.now c.args.who.now

pub returns-then-shows_at-clause-member : goal.returns-then-shows_at-clause-member
returns-then-shows_at-clause-member c = unreachable_if_shown (record { standings = c.args.members.now; rows = c.args.rows.now }) c.args.who.now true (shown c)

pub rows-preserved : goal.rows-preserved
rows-preserved c =
    let test = row_shows c.args.members.now c.args.who.now in
    let es = map.entries c.args.rows.now in
    ap (λ b. b || list_any test (drop (c.rows.index + 1) es)) (sym c.if-shows_at.false ∙ c.shows_at.ensures)
    ∙ sym (any_from_index test es c.rows.index)
    ∙ c.rows.invariant

pub returns-clause-value : goal.returns-clause-value
returns-clause-value c = not_shown c ∙ shown_reported c.args.members.now c.args.rows.now c.args.who.now

pub returns-clause-member : goal.returns-clause-member
returns-clause-member c = unreachable_if_shown (record { standings = c.args.members.now; rows = c.args.rows.now }) c.args.who.now false (not_shown c)
