use Rattle.std.proofs.Common.{arith, ℕ, sym, ap, ◌∙◌}
use Rattle.std.specs.FinMap as map
use Rattle.std.specs.Option.{option_map}
use Rattle.ak_address.specs.Unique.{UniqueModel}
use Rattle.ak_packet.specs.Hashed.{plus}
use Rattle.ak_packet.proofs.HashLemmas.{fold_more, fold_end, fold_all}
use Rattle.ak_packet.proofs.hashing.total.Goals as goal
use Rattle.ak_packet.proofs.hashing.total.Goals.{in-Some, in_default}

pub counts-preserved : goal.counts-preserved
counts-preserved c =
    let pairs = map.entries c.args.version.now in
    elim c.match-at.branch [
      | in-Some w ↦
          let pair : UniqueModel × ℕ = (w.in-Some.field-0-0.now, w.in-Some.count) in
          w.sum-is
          ∙ w.saturating_add-sum.ensures
          ∙ ap (λ sum. plus sum pair) c.counts.invariant
          ∙ sym (fold_more plus 0 pairs c.counts.index pair (sym c.at.ensures.pair ∙ ap (option_map {U = UniqueModel × ℕ} (λ p. (p.0.now, p.1))) w.in-Some.is))
      | in_default w ↦
          w.sum-is
          ∙ c.counts.invariant
          ∙ sym (fold_end plus 0 pairs c.counts.index (sym c.at.ensures.pair ∙ ap (option_map {U = UniqueModel × ℕ} (λ p. (p.0.now, p.1))) w.in_default.is))
    ]

pub returns : goal.returns
returns c = c.counts.invariant ∙ fold_all plus 0 (map.entries c.args.version.now) c.counts.index (omega (arith, c.counts-test.false, map.len-entries c.args.version.now))
