-- Names can be told apart.
use Rattle.std.proofs.Common.{◌≡◌, true, false, ◌⊎◌, inl, inr, Ordering, Less, Equal, Greater, is_eq, refl, sym, ap, ◌∙◌}
use Rattle.std.specs.Cmp.{tied_itself}
use Rattle.ak_address.specs.Unique.{unique_cmp}
use Rattle.ak_address.proofs.OrderLemmas.{unique_total, unique_exact}
use Rattle.ak_line.specs.Name.{Name, is_name}

pub name_tells : (a b : Name) → ((is_name a b ≡ true) × (a ≡ b)) ⊎ ((is_name a b ≡ false) × (a ≡ b → ⊥))
name_tells a b = by_order (unique_cmp a b) refl
  where
    itself : (o : Ordering) → unique_cmp a b ≡ o → (Equal ≡ o → ⊥) → a ≡ b → ⊥
    itself o is other same = other (sym (tied_itself unique_total a) ∙ ap (unique_cmp a) same ∙ is)

    by_order : (o : Ordering) → unique_cmp a b ≡ o → ((is_name a b ≡ true) × (a ≡ b)) ⊎ ((is_name a b ≡ false) × (a ≡ b → ⊥))
    by_order Less is = inr (ap is_eq is, itself Less is (λ e. absurd (cc)))
    by_order Equal is = inl (ap is_eq is, unique_exact a b is)
    by_order Greater is = inr (ap is_eq is, itself Greater is (λ e. absurd (cc)))
