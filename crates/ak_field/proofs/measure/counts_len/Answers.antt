use Rattle.std.proofs.Common.{◌≡◌, ◌+◌, length, sym, ap, ◌∙◌, arith}
use Rattle.std.specs.FinMap as map
use Rattle.std.proofs.lemmas.List.{length-append}
use Rattle.ak_address.specs.Unique.{UniqueModel}
use Rattle.ak_gossip.proofs.SeenLemmas.{not_none}
use Rattle.ak_field.specs.Spelling.{counted, process, eight_bytes}
use Rattle.ak_field.proofs.Measured.{more, whole}
use Rattle.ak_field.proofs.measure.counts_len.Goals as goal
use Rattle.ak_field.proofs.measure.counts_len.Goals.{in-Some, in_default}

pub counts-preserved : goal.counts-preserved
counts-preserved c = elim c.match-at.branch [
  | in-Some w ↦
      let es = map.entries c.args.counts.now in
      let who = w.in-Some.who.now in
      let count = w.in-Some.field-0-1 in
      let len : w.process_len.result ≡ length (process who) = w.process_len.ensures.length w.who.inside.uid ∙ ap (λ (u : UniqueModel). length (process u)) w.who.view_is in
      let all : length (counted (who, count)) ≡ length (process who) + 8 = length-append (process who) (eight_bytes count) in
      let added : c.match-at.total ≡ c.counts.total + length (counted (who, count)) = omega (arith, w.total-is, len, all) in
      record { sum = more counted es c.counts.index c.counts.total c.match-at.total (who, count) (sym w.in-Some.ensures.pair) added c.counts.invariant.sum; few = omega (arith, w.total-is, w.process_len.ensures.few, c.counts.invariant.few) }
  | in_default w ↦
      absurd (not_none (map.entries c.args.counts.now) c.counts.index (omega (arith, c.len-index-end.ensures, map.len-entries c.args.counts.now)) (sym w.in_default.ensures.pair))
]

pub returns-clause-is : goal.returns-clause-is
returns-clause-is c =
    whole counted (map.entries c.args.counts.now) c.counts.index c.counts.total (omega (arith, c.len-index-end.ensures, map.len-entries c.args.counts.now)) c.counts.invariant.sum
