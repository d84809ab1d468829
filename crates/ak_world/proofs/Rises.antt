-- What a view shows of a member's status was done by covered entries; and how that stands with greater versions and later entries.
use Rattle.std.proofs.Common.{◌≡◌, ℕ, ◌≤◌, true, false, ◌⊎◌, inl, inr, List, [], ◌∷◌, ◌++◌, Option, Some, None, is_some, sym, ap, ◌∙◌, subst, arith, true≢false}
use Rattle.std.proofs.lemmas.Option.{same_Some}
use Rattle.std.specs.FinMap as map
use Rattle.ak_address.specs.Unique.{UniqueModel}
use Rattle.ak_clock.specs.Version.{Counts, Covers}
use Rattle.ak_member.specs.declared.effect.Effect.{Effect}
use Rattle.ak_member.specs.declared.effect.Effect.TheVariants.{Joined, Rise, Removed}
use Rattle.ak_member.specs.declared.status.Status.{Status}
use Rattle.ak_member.specs.declared.status.Status.TheVariants.{Joining, WeaklyUp, Up, Leaving, Exiting, Down}
use Rattle.ak_member.specs.declared.standing.Standing.{Standing}
use Rattle.ak_member.specs.declared.standing.Standing.TheVariants.{Member, Buried}
use Rattle.ak_member.specs.Standing.{rank, member_of}
use Rattle.ak_member.specs.Age.{counts, IsCounted}
use Rattle.ak_history.specs.declared.entry.Entry.{Entry}
use Rattle.ak_history.specs.History.{IsNumbered, IsBounded, view}
use Rattle.ak_history.specs.Shown.{Did, Rose, IsNamed, IsRemoved, Stands}
use Rattle.ak_history.proofs.HistoryLemmas.{bounded-prefix}
use Rattle.ak_history.proofs.StandingsShown.{standings_shown}
use Rattle.ak_history.proofs.Covering.{did_more, did_later, did_before}
use Rattle.ak_world.proofs.Naming.{member_named}

module _ (history : List Entry) (v : Counts) (who : UniqueModel) where
  -- what is true of a member's status and number is true of what is shown
  shown_member : (P : Status → ℕ → Type 0) → ((status : Status) (number : ℕ) → Stands history v who (Some (Member status number)) → P status number)
      → (status : Status) (number : ℕ) → member_of (map.get (view history v).standings who) ≡ Some (status, number) → P status number
  shown_member P each status number at = by_standing (map.get (view history v).standings who) (standings_shown history v who) at
    where
      by_standing : (o : Option Standing) → Stands history v who o → member_of o ≡ Some (status, number) → P status number
      by_standing None stands is = absurd (true≢false (sym (ap is_some is)))
      by_standing (Some (Member other up)) stands is = subst (λ (m : Status × ℕ). P m.0 m.1) (same_Some (other, up) (status, number) is) (each other up stands)
      by_standing (Some (Buried confirmed)) stands is = absurd (true≢false (sym (ap is_some is)))

  -- a counted member rose to Up or to Leaving
  abbrev pub HasRisen : Type 0
  HasRisen = ((number : ℕ) × Rose history v who Up number) ⊎ ((number : ℕ) × Rose history v who Leaving number)

  by_status : (status : Status) → counts status ≡ true → (status ≡ Joining) ⊎ ((number : ℕ) × Rose history v who status number) → HasRisen
  by_status Joining is reached = absurd (true≢false (sym is))
  by_status WeaklyUp is reached = absurd (true≢false (sym is))
  by_status Up is (inl same) = absurd (true≢false (ap counts same))
  by_status Up is (inr rose) = inl rose
  by_status Leaving is (inl same) = absurd (true≢false (ap counts same))
  by_status Leaving is (inr rose) = inr rose
  by_status Exiting is reached = absurd (true≢false (sym is))
  by_status Down is reached = absurd (true≢false (sym is))

  pub counted_rose : (number : ℕ) → IsCounted (view history v).standings who number → HasRisen
  counted_rose number c = shown_member (λ status _. counts status ≡ true → HasRisen) (λ status _ stands is. by_status status is stands.2.reached) c.0 number c.1 c.2

  pub counted_named : (number : ℕ) → IsCounted (view history v).standings who number → IsNamed history v who
  counted_named number c = member_named history v who (ap is_some c.1)

  -- who is Joining did not rise
  pub joining_not_risen : (number : ℕ) → member_of (map.get (view history v).standings who) ≡ Some (Joining, number) → (up : ℕ) → Rose history v who Up up → ⊥
  joining_not_risen number at up rose = shown_member (λ status _. rank status ≡ 1 → ⊥) (λ status _ stands is. let most : 3 ≤ rank status = stands.2.greatest Up up rose in omega arith) Joining number at (omega arith)

  -- a member that is Up rose to Up
  pub up_rose : (number : ℕ) → member_of (map.get (view history v).standings who) ≡ Some (Up, number) → (up : ℕ) × Rose history v who Up up
  up_rose number at =
      shown_member (λ status _. Up ≡ status → (up : ℕ) × Rose history v who Up up) (λ status _ stands is. elim stands.2.reached [
        | inl same ↦ absurd (true≢false (ap counts (is ∙ same)))
        | inr rose ↦ (rose.0, subst (λ s. Rose history v who s rose.0) (sym is) rose.1)
      ]) Up number at (λ _. Up)

-- ---- a greater version, and later entries
pub named_more : (history : List Entry) (v w : Counts) (who : UniqueModel) → Covers w v → IsNamed history v who → IsNamed history w who
named_more history v w who over (inl joined) = inl (did_more history v w (Joined who) over joined)
named_more history v w who over (inr rose) = inr (rose.0, rose.1, did_more history v w (Rise who rose.0 rose.1) over rose.2)

pub did_then : (more history : List Entry) (v : Counts) (x : Effect) → Did history v x → Did (more ++ history) v x
did_then [] history v x d = d
did_then (e ∷ more) history v x d = did_later e (more ++ history) v x (did_then more history v x d)

pub did_back : (more history : List Entry) (v : Counts) (x : Effect) → IsNumbered (more ++ history) → IsBounded history v → Did (more ++ history) v x → Did history v x
did_back [] history v x numbered bounded d = d
did_back (e ∷ more) history v x numbered bounded d = did_back more history v x numbered.1 bounded (did_before e (more ++ history) v x numbered (bounded-prefix more history v bounded) d)

pub named_then : (more history : List Entry) (v : Counts) (who : UniqueModel) → IsNamed history v who → IsNamed (more ++ history) v who
named_then more history v who (inl joined) = inl (did_then more history v (Joined who) joined)
named_then more history v who (inr rose) = inr (rose.0, rose.1, did_then more history v (Rise who rose.0 rose.1) rose.2)

pub named_back : (more history : List Entry) (v : Counts) (who : UniqueModel) → IsNumbered (more ++ history) → IsBounded history v → IsNamed (more ++ history) v who → IsNamed history v who
named_back more history v who numbered bounded (inl joined) = inl (did_back more history v (Joined who) numbered bounded joined)
named_back more history v who numbered bounded (inr rose) = inr (rose.0, rose.1, did_back more history v (Rise who rose.0 rose.1) numbered bounded rose.2)

pub removed_more : (history : List Entry) (v w : Counts) (who : UniqueModel) → Covers w v → IsRemoved history v who → IsRemoved history w who
removed_more history v w who over (inl d) = inl (did_more history v w (Removed who true) over d)
removed_more history v w who over (inr d) = inr (did_more history v w (Removed who false) over d)
