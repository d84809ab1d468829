-- Who is active after some actions: an entity that was so before them, and that none of them ends; or one that an action starts, and
-- that none after it ends.
use Rattle.std.proofs.Common.{◌≡◌, ◌≢◌, ◌⊎◌, inl, inr, ℕ, zero, suc, ◌≤◌, Bool, true, false, List, [], ◌∷◌, Some, slice_get, refl, sym, ap, ◌∙◌, arith, true≢false}
use Rattle.std.proofs.lemmas.Option.{same_Some}
use Rattle.ak_address.proofs.Elements.{contains_nothing, contains_at}
use Rattle.ak_shard_id.specs.Division.{DivisionModel, shard_in}
use Rattle.ak_wire.specs.declared.action.Action.{Action}
use Rattle.ak_wire.specs.declared.action.Action.TheVariants as action
use Rattle.ak_sharding.specs.Alive.{alive_then, alive_after}

-- at this place the entities of the shard end
abbrev pub EndsAt : ℕ → List Action → ℕ → Type 0
EndsAt shard actions place = (slice_get actions place ≡ Some (action.Gone shard)) ⊎ (slice_get actions place ≡ Some action.Stopped)

-- from this place on they do not
abbrev pub GoesOn : ℕ → List Action → ℕ → Type 0
GoesOn shard actions from = (place : ℕ) → from ≤ place → EndsAt shard actions place → ⊥

-- the entity starts at this place, and goes on
pub record StartsAt (division : DivisionModel) (actions : List Action) (e : List ℕ) : Type 0 where
  pub place : ℕ
  pub at : slice_get actions place ≡ Some (action.Entity e)
  pub goes_on : GoesOn (shard_in division e) actions (suc place)

abbrev pub IsAlive : DivisionModel → (List ℕ → Type 0) → List Action → List ℕ → Type 0
IsAlive division alive actions e = (alive e × GoesOn (shard_in division e) actions 0) ⊎ StartsAt division actions e

abbrev is_end : Action → Bool
is_end (action.Gone shard) = true
is_end action.Stopped = true
is_end other = false

pub nothing_ends : (shard : ℕ) → GoesOn shard [] 0
nothing_ends shard place le (inl gone) = contains_nothing _ (contains_at [] place (action.Gone shard) gone)
nothing_ends shard place le (inr stopped) = contains_nothing _ (contains_at [] place action.Stopped stopped)

goes_later : (shard : ℕ) (a : Action) (actions : List Action) (from : ℕ) → GoesOn shard actions from → GoesOn shard (a ∷ actions) (suc from)
goes_later shard a actions from goes zero le ends = absurd (omega (arith, le))
goes_later shard a actions from goes (suc place) le ends = goes place (omega (arith, le)) ends

goes_first : (shard : ℕ) (a : Action) (actions : List Action) → (EndsAt shard (a ∷ actions) 0 → ⊥) → GoesOn shard actions 0 → GoesOn shard (a ∷ actions) 0
goes_first shard a actions none goes zero le ends = none ends
goes_first shard a actions none goes (suc place) le ends = goes place (omega arith) ends

none_ends : (shard : ℕ) (a : Action) (actions : List Action) → is_end a ≡ false → EndsAt shard (a ∷ actions) 0 → ⊥
none_ends shard a actions is (inl gone) = true≢false (sym (ap is_end (same_Some a (action.Gone shard) gone)) ∙ is)
none_ends shard a actions is (inr stopped) = true≢false (sym (ap is_end (same_Some a action.Stopped stopped)) ∙ is)

other_ends : (shard other : ℕ) (actions : List Action) → shard ≢ other → EndsAt shard (action.Gone other ∷ actions) 0 → ⊥
other_ends shard other actions apart (inl gone) = apart (let same : action.Gone other ≡ action.Gone shard = same_Some _ _ gone in cc)
other_ends shard other actions apart (inr stopped) = let same : action.Gone other ≡ action.Stopped = same_Some _ _ stopped in absurd (cc)

by_first : (division : DivisionModel) (alive : List ℕ → Type 0) (a : Action) (actions : List Action) (e : List ℕ) → alive_then division alive a e → GoesOn (shard_in division e) actions 0 → IsAlive division alive (a ∷ actions) e
by_first division alive (action.Entity entity) actions e h goes = elim h [
  | inl was ↦ inl (was, goes_first (shard_in division e) (action.Entity entity) actions (none_ends (shard_in division e) (action.Entity entity) actions refl) goes)
  | inr same ↦ inr (record { place = 0; at = ap (λ x. Some (action.Entity x)) (sym same); goes_on = goes_later (shard_in division e) (action.Entity entity) actions 0 goes })
]
by_first division alive (action.Gone shard) actions e h goes = inl (h.0, goes_first (shard_in division e) (action.Gone shard) actions (other_ends (shard_in division e) shard actions h.1) goes)
by_first division alive action.Stopped actions e h goes = absurd h
by_first division alive other actions e h goes = inl (h, goes_first (shard_in division e) other actions (none_ends (shard_in division e) other actions refl) goes)

pub after_is : (division : DivisionModel) (alive : List ℕ → Type 0) (actions : List Action) (e : List ℕ) → alive_after division alive actions e → IsAlive division alive actions e
after_is division alive [] e h = inl (h, nothing_ends (shard_in division e))
after_is division alive (a ∷ actions) e h = elim (after_is division (alive_then division alive a) actions e h) [
  | inl before ↦ by_first division alive a actions e before.0 before.1
  | inr starts ↦ inr (record { place = suc starts.place; at = starts.at; goes_on = goes_later (shard_in division e) a actions (suc starts.place) starts.goes_on })
]
