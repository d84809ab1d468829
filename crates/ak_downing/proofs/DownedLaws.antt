-- Whom a decision downs.
use Rattle.std.proofs.Common.{◌≡◌, ◌↔◌, ℕ, Bool, true, false, not, ◌&&◌, ◌||◌, if◌then◌else◌, inl, inr, List, [], ◌∷◌, Contains, refl, sym, ap, ◌∙◌, subst, true≢false}
use Rattle.ak_address.specs.Unique.{UniqueModel}
use Rattle.ak_address.specs.Uniques.{has}
use Rattle.ak_address.proofs.Elements.{contains_first, contains_rest, first_or_rest, contains_nothing}
use Rattle.ak_address.proofs.TableLaws.{key_itself}
use Rattle.ak_member.specs.declared.effect.Effect.{Effect}
use Rattle.ak_member.specs.declared.effect.Effect.TheVariants.{Rise}
use Rattle.ak_member.specs.declared.status.Status.{Status}
use Rattle.ak_member.specs.declared.status.Status.TheVariants.{Down}
use Rattle.ak_member.specs.Standing.{is_down, members_of}
use Rattle.ak_member.specs.View.{View}
use Rattle.ak_member.proofs.MembersLaws.{members_have, have_members}
use Rattle.ak_reach.specs.Unreachable.{unreachable_members}
use Rattle.ak_downing.specs.declared.decision.Decision.{Decision}
use Rattle.ak_downing.specs.declared.decision.Decision.TheVariants.{DownUnreachable}
use Rattle.ak_downing.specs.Downing.{is_against, all_downed, downs}
use Rattle.ak_downing.specs.Sides.{IsDowning}

module _ (test : UniqueModel → Bool) where
  -- one of these goes down by the effect
  abbrev GoesDown : List (UniqueModel × (Status × ℕ)) → Effect → Type 0
  GoesDown pairs x = (m : UniqueModel × (Status × ℕ)) × Contains pairs m × (test m.0 ≡ true) × (is_down m.1.0 ≡ false) × (x ≡ Rise m.0 Down 0)

  later : (pair : UniqueModel × (Status × ℕ)) (pairs : List (UniqueModel × (Status × ℕ))) (x : Effect) → GoesDown pairs x → GoesDown (pair ∷ pairs) x
  later pair pairs x g = (g.0, contains_rest pair g.0 pairs g.1, g.2, g.3, g.4)

  pub downed_has : (pairs : List (UniqueModel × (Status × ℕ))) (x : Effect) → Contains (all_downed test pairs) x → GoesDown pairs x
  downed_has [] x there = absurd (contains_nothing x there)
  downed_has (pair ∷ pairs) x there = next (test pair.0) (is_down pair.1.0) refl refl (λ h. downed_has pairs x h) there
    where
      next : (a b : Bool) → test pair.0 ≡ a → is_down pair.1.0 ≡ b → (Contains (all_downed test pairs) x → GoesDown pairs x)
          → Contains (if a && not b then Rise pair.0 Down 0 ∷ all_downed test pairs else all_downed test pairs) x → GoesDown (pair ∷ pairs) x
      next true false p q rest there = elim (first_or_rest (Rise pair.0 Down 0) x (all_downed test pairs) there) [
        | inl same ↦ (pair, contains_first pair pairs, p, q, same)
        | inr h ↦ later pair pairs x (rest h)
      ]
      next true true p q rest there = later pair pairs x (rest there)
      next false b p q rest there = later pair pairs x (rest there)

  has_downed : (pairs : List (UniqueModel × (Status × ℕ))) (m : UniqueModel × (Status × ℕ)) → Contains pairs m → test m.0 ≡ true → is_down m.1.0 ≡ false → Contains (all_downed test pairs) (Rise m.0 Down 0)
  has_downed [] m there p q = absurd (contains_nothing m there)
  has_downed (pair ∷ pairs) m there p q = elim (first_or_rest pair m pairs there) [
    | inl same ↦ here (test pair.0) (is_down pair.1.0) (ap (λ (r : UniqueModel × (Status × ℕ)). test r.0) (sym same) ∙ p) (ap (λ (r : UniqueModel × (Status × ℕ)). is_down r.1.0) (sym same) ∙ q) (ap (λ (r : UniqueModel × (Status × ℕ)). r.0) same)
    | inr h ↦ further (test pair.0 && not (is_down pair.1.0)) (has_downed pairs m h p q)
  ]
    where
      here : (a b : Bool) → a ≡ true → b ≡ false → m.0 ≡ pair.0 → Contains (if a && not b then Rise pair.0 Down 0 ∷ all_downed test pairs else all_downed test pairs) (Rise m.0 Down 0)
      here true false a b same = subst (λ who. Contains (Rise pair.0 Down 0 ∷ all_downed test pairs) (Rise who Down 0)) (sym same) (contains_first (Rise pair.0 Down 0) (all_downed test pairs))
      here true true a b same = absurd (true≢false b)
      here false b' a b same = absurd (true≢false (sym a))

      further : (b : Bool) → Contains (all_downed test pairs) (Rise m.0 Down 0) → Contains (if b then Rise pair.0 Down 0 ∷ all_downed test pairs else all_downed test pairs) (Rise m.0 Down 0)
      further true h = contains_rest (Rise pair.0 Down 0) (Rise m.0 Down 0) (all_downed test pairs) h
      further false h = h

pub downs_members : (decided : Decision) (v : View) (me : UniqueModel) (effect : Effect) → Contains (downs decided v me) effect ↔ IsDowning decided v me effect
downs_members decided v me effect = (forward, back)
  where
    forward : Contains (downs decided v me) effect → IsDowning decided v me effect
    forward there =
        let g = downed_has (is_against decided (unreachable_members v) me) (members_of v.standings) effect there in
        record { who = g.0.0; status = g.0.1.0; number = g.0.1.1; member = members_have v.standings g.0 g.1; not_down = g.3; against = g.2; effect_is = g.4 }

    back : IsDowning decided v me effect → Contains (downs decided v me) effect
    back d =
        subst (Contains (downs decided v me)) (sym d.effect_is)
        (has_downed (is_against decided (unreachable_members v) me) (members_of v.standings) (d.who, (d.status, d.number)) (have_members v.standings d.who (d.status, d.number) d.member) d.against d.not_down)

pub node_spared : (v : View) (me : UniqueModel) → Contains (downs DownUnreachable v me) (Rise me Down 0) → ⊥
node_spared v me there =
    let d = (downs_members DownUnreachable v me (Rise me Down 0)).0 there in
    let same : me ≡ d.who = ap named d.effect_is in
    let own : is_against DownUnreachable (unreachable_members v) me me ≡ true = ap (is_against DownUnreachable (unreachable_members v) me) same ∙ d.against in
    true≢false (sym own ∙ ap (λ b. not (b || not (has (unreachable_members v) me))) (key_itself me))
  where
    named : Effect → UniqueModel
    named (Rise who status number) = who
    named other = me
