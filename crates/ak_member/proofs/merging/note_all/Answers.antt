use Rattle.std.proofs.Common.{◌+◌, drop, ap, ◌∙◌, sym, arith}
use Rattle.std.specs.FinMap as map
use Rattle.ak_member.specs.Slots.{SlotsModel, standings_of}
use Rattle.ak_member.specs.Merging.{all_noted}
use Rattle.ak_member.proofs.MergeLemmas.{noted_from, noted_past, noted_end}
use Rattle.ak_member.proofs.merging.note_all.Goals as goal
use Rattle.ak_member.proofs.merging.note_all.Goals.{in-Some+then-note_known, in-Some+else-note_known, in_default}

pub pairs-preserved : goal.pairs-preserved
pairs-preserved c =
    let es = map.entries (standings_of c.args.other.now.entries) in
    let now = standings_of c.pairs.slots.entries in
    elim c.match-at.branch [
      | in-Some+then-note_known w ↦ record {
        left =
            noted_from now (standings_of c.match-at.slots.entries) es c.pairs.pair (w.in-Some.who.now, w.in-Some.standing.now) w.in-Some.ensures (ap (λ (s : SlotsModel). standings_of s.entries) w.slots-is ∙ w.note_known.ensures.after)
            ∙ c.pairs.invariant.left;
        room = ap (λ (s : SlotsModel). s.room) w.slots-is ∙ w.note_known.ensures.room ∙ c.pairs.invariant.room;
      }
      | in-Some+else-note_known w ↦ record {
        left =
            noted_from now (standings_of c.match-at.slots.entries) es c.pairs.pair (w.in-Some.who.now, w.in-Some.standing.now) w.in-Some.ensures (ap (λ (s : SlotsModel). standings_of s.entries) w.slots-is ∙ w.note_known.ensures.after)
            ∙ c.pairs.invariant.left;
        room = ap (λ (s : SlotsModel). s.room) w.slots-is ∙ w.note_known.ensures.room ∙ c.pairs.invariant.room;
      }
      | in_default w ↦ record {
        left =
            ap (λ (s : SlotsModel). all_noted (drop (c.pairs.pair + 1) es) (standings_of s.entries)) w.slots-is ∙ noted_past now es c.pairs.pair w.in_default.ensures ∙ c.pairs.invariant.left;
        room = ap (λ (s : SlotsModel). s.room) w.slots-is ∙ c.pairs.invariant.room;
      }
    ]

pub returns-clause-after : goal.returns-clause-after
returns-clause-after c =
    let s = standings_of c.args.other.now.entries in
    sym (noted_end (standings_of c.pairs.slots.entries) (map.entries s) c.pairs.pair (omega (arith, c.pairs-test.false, c.len-pair-end.ensures, map.len-entries s))) ∙ c.pairs.invariant.left
