use Rattle.std.proofs.Common.{◌∙◌}
use Rattle.std.specs.Ordering.{is_eq}
use Rattle.ak_address.specs.Unique.{address_cmp}
use Rattle.ak_address.proofs.OrderLemmas.{bytes_tie, then_ties}
use Rattle.ak_address.proofs.address.Address.is.Goals as goal

pub returns-then-self-other-clause-value : goal.returns-then-self-other-clause-value
returns-then-self-other-clause-value c =
    then_ties _ _ _ _ c.if-self-other.true (c.is.ensures.value ∙ bytes_tie c.self.inside.host c.other.inside.host)
    ∙ (λ i. is_eq (address_cmp (c.self.view_is i) (c.other.view_is i)))
