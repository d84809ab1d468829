use Rattle.std.proofs.Common.{ap, ◌∙◌, refl, sym, true≢false}
use Rattle.std.specs.FinMap as map
use Rattle.ak_detector.specs.Sides.{names_of, run}
use Rattle.ak_detector.proofs.RingLaws.{ring_found, ring_agrees, run_to_end}
use Rattle.ak_detector.proofs.ring.is_ring.Goals as goal

pub returns : goal.returns
returns c =
    let es = map.entries c.args.members.now in
    let end = run_to_end c.args.members.now c.sides-before.result.1 c.uniques-end.result c.uniques-end.ensures in
    let before = names_of (run 0 c.sides-before.result.0 es) in
    let after = names_of (run c.sides-before.result.1 c.uniques-end.result es) in (
      λ is.
          ring_found c.args.me.now c.args.members.now c.args.watched.now before after c.count_run-first.result c.count_run-last.result
          c.sides-before.ensures.before (c.sides-before.ensures.after ∙ ap names_of (sym end)) c.count_run-last.ensures c.count_run-first.ensures
          (sym c.len.ensures ∙ c.if-len-first.false) (c.if-not-is_run.ensures.0 refl).1 (c.is_run-2.ensures.0 is).1,
      λ ring.
          c.is_run-2.ensures.1
          (ring_agrees c.args.me.now c.args.members.now c.args.watched.now before after c.count_run-first.result c.count_run-last.result
          c.sides-before.ensures.before (c.sides-before.ensures.after ∙ ap names_of (sym end)) c.count_run-last.ensures c.count_run-first.ensures ring).2,
    )

-- another first run is no ring
pub returns-then-not-is_run : goal.returns-then-not-is_run
returns-then-not-is_run c = (
  λ no. absurd (true≢false (sym no)),
  λ ring.
      let es = map.entries c.args.members.now in
      let end = run_to_end c.args.members.now c.sides-before.result.1 c.uniques-end.result c.uniques-end.ensures in
      c.if-not-is_run.ensures.1
      (ring_agrees c.args.me.now c.args.members.now c.args.watched.now (names_of (run 0 c.sides-before.result.0 es)) _ c.count_run-first.result c.count_run-last.result
      c.sides-before.ensures.before (c.sides-before.ensures.after ∙ ap names_of (sym end)) c.count_run-last.ensures c.count_run-first.ensures ring).1,
)

-- nor are more or fewer
pub returns-then-len-first : goal.returns-then-len-first
returns-then-len-first c = (
  λ no. absurd (true≢false (sym no)),
  λ ring.
      let es = map.entries c.args.members.now in
      let end = run_to_end c.args.members.now c.sides-before.result.1 c.uniques-end.result c.uniques-end.ensures in
      absurd
      (c.if-len-first.true
      (c.len.ensures
      ∙ (ring_agrees c.args.me.now c.args.members.now c.args.watched.now (names_of (run 0 c.sides-before.result.0 es)) _ c.count_run-first.result c.count_run-last.result
      c.sides-before.ensures.before (c.sides-before.ensures.after ∙ ap names_of (sym end)) c.count_run-last.ensures c.count_run-first.ensures ring).0)),
)
