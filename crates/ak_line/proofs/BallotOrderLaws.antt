-- The order of ballots is strict, and a greater term is later whoever asks.
use Rattle.std.proofs.Common.{◌≡◌, ◌<◌, Less, Equal, ap, sym, ◌∙◌}
use Rattle.std.specs.Cmp.{tied_itself, nat_cmp_is}
use Rattle.std.specs.Ordering.{ordering_then}
use Rattle.ak_address.specs.Unique.{unique_cmp}
use Rattle.ak_promise.specs.Ballot.{BallotModel}
use Rattle.ak_promise.proofs.BallotOrder.{ballot_total}
use Rattle.ak_line.specs.Line.{IsStrict}
use Rattle.ak_line.specs.BallotOrder.{IsLater}

never_later : (b : BallotModel) → IsLater b b → ⊥
never_later b is = differ (sym (tied_itself ballot_total b) ∙ is)
  where
    differ : Equal ≡ Less → ⊥
    differ same = absurd (cc)

pub later_strict : IsStrict IsLater
later_strict = record { never_itself = never_later; transitive = λ b c d one two. ballot_total.trans d c b two one }

pub greater_later : (b c : BallotModel) → c.term < b.term → IsLater b c
greater_later b c less = ap (λ o. ordering_then o (unique_cmp c.unique b.unique)) (sym (nat_cmp_is c.term b.term Less less))
