-- The rule of a grant learns as the moves want it.
use Rattle.std.proofs.Common.{◌≡◌, ℕ, ◌≤◌, ◌==◌, ltb, ◌&&◌, ◌||◌, Bool, true, false, if◌then◌else◌, ◌⊎◌, inl, inr, Option, Some, None, Decides, is_lt, refl, sym, ap, ◌∙◌, arith, true≢false, ltb-true, ltb-false, eqb-true, le_of_lt}
use Rattle.std.proofs.Math.Nat.{le-max_left, le-max_right}
use Rattle.std.proofs.lemmas.Option.{same_Some}
use Rattle.ak_address.specs.Unique.{unique_cmp}
use Rattle.ak_line.specs.Name.{Name}
use Rattle.ak_line.specs.Shards.{Mark, Home, Placement, Learns}
use Rattle.ak_line.specs.Rules.{beats, claimed, learnt}

-- what the comparison tells of the numbers
beaten : (z : Name) (n : ℕ) (h : Home) → beats z n h ≡ true → h.number ≤ n
beaten z n h is = by_test (ltb h.number n) refl is
  where
    by_equal : (t : Bool) → (h.number == n) ≡ t → (t && is_lt (unique_cmp h.node z)) ≡ true → h.number ≤ n
    by_equal true same both = let e = eqb-true h.number n same in omega (arith, e)
    by_equal false other both = absurd (true≢false (sym both))

    by_test : (t : Bool) → ltb h.number n ≡ t → (t || (h.number == n && is_lt (unique_cmp h.node z))) ≡ true → h.number ≤ n
    by_test true less both = le_of_lt (ltb-true h.number n less)
    by_test false more both = by_equal (h.number == n) refl both

unbeaten : (z : Name) (n : ℕ) (h : Home) → beats z n h ≡ false → n ≤ h.number
unbeaten z n h is = by_test (ltb h.number n) refl is
  where
    by_test : (t : Bool) → ltb h.number n ≡ t → (t || (h.number == n && is_lt (unique_cmp h.node z))) ≡ false → n ≤ h.number
    by_test true less both = absurd (true≢false both)
    by_test false more both = let e = ltb-false h.number n more in omega (arith, e)

module _ (asks : Type 0) (asking : Bool) (d : Decides asking asks) (z : Name) (m : Mark) (e : Placement) where
  abbrev Cases : Option Home → Type 0
  Cases x =
      ((x ≡ e.home) × (m.hosts ≡ true → (h : Home) × (e.home ≡ Some h) × (asks → m.number ≤ h.number)))
      ⊎ ((x ≡ Some (record { node = z; number = m.number })) × (m.hosts ≡ true) × ((h : Home) → e.home ≡ Some h → asks × (h.number ≤ m.number)))

  by_home : (h : Home) (a b : Bool) → e.home ≡ Some h → m.hosts ≡ true → asking ≡ a → beats z m.number h ≡ b → Cases (if a && b then Some (record { node = z; number = m.number }) else Some h)
  by_home h true true at hosts asked more = inr (refl, hosts, λ k is. (d.0 asked, beaten z m.number k (ap (beats z m.number) (same_Some k h (sym is ∙ at)) ∙ more)))
  by_home h true false at hosts asked less = inl (sym at, λ _. (h, at, λ a. unbeaten z m.number h less))
  by_home h false b at hosts unasked test = inl (sym at, λ _. (h, at, λ a. absurd (true≢false (sym (d.1 a) ∙ unasked))))

  by_placement : (o : Option Home) → e.home ≡ o → m.hosts ≡ true → Cases (claimed asking z m.number o)
  by_placement None none hosts = inr (refl, hosts, λ h is. absurd (differ h (sym none ∙ is)))
    where
      differ : (h : Home) → None ≡ Some h → ⊥
      differ h is = absurd (cc)
  by_placement (Some h) at hosts = by_home h asking (beats z m.number h) at hosts refl refl

  by_report : (b : Bool) → m.hosts ≡ b → Cases (if b then claimed asking z m.number e.home else e.home)
  by_report true hosts = by_placement e.home refl hosts
  by_report false silent = inl (refl, λ hosts. absurd (true≢false (sym hosts ∙ silent)))

  pub learnt_learns : Learns asks z m e (learnt asking z m e)
  learnt_learns = record { keeps = le-max_left e.last m.number; covers = le-max_right e.last m.number; home = by_report m.hosts refl }
