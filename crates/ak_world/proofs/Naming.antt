-- Whom the view of a version names is named by the entries that the version covers.
use Rattle.std.proofs.Common.{◌≡◌, ◌+◌, ◌≤◌, Bool, true, false, if◌then◌else◌, ◌⊎◌, inl, inr, List, [], ◌∷◌, Option, Some, None, is_some, Contains, refl, sym, ap, ◌∙◌, subst, arith, true≢false}
use Rattle.std.proofs.lemmas.Option.{same_Some}
use Rattle.std.specs.FinMap as map
use Rattle.std.specs.Ordering.{is_eq}
use Rattle.ak_address.specs.Unique.{UniqueModel, unique_cmp}
use Rattle.ak_address.specs.Uniques.{UniqueSet}
use Rattle.ak_address.proofs.Elements.{contains_first, contains_rest}
use Rattle.ak_address.proofs.TableLaws.{same_key}
use Rattle.ak_clock.specs.Version.{Counts}
use Rattle.ak_member.specs.declared.effect.Effect.{Effect}
use Rattle.ak_member.specs.declared.effect.Effect.TheVariants.{Joined, Rise, Removed, Observed}
use Rattle.ak_member.specs.declared.standing.Standing.{Standing}
use Rattle.ak_member.specs.declared.standing.Standing.TheVariants.{Member, Buried}
use Rattle.ak_member.specs.Standing.{member_of, tombstone_of, is_member}
use Rattle.ak_member.specs.View.{observed_by, observed}
use Rattle.ak_gossip.specs.Gossip.{is_known}
use Rattle.ak_history.specs.declared.entry.Entry.{Entry}
use Rattle.ak_history.specs.History.{entries_of, view}
use Rattle.ak_history.specs.Shown.{Did, IsNamed, IsRemoved, Stands}
use Rattle.ak_history.proofs.StandingsShown.{standings_shown}

module _ (history : List Entry) (v : Counts) (who : UniqueModel) where
  -- a member is named
  named_if : (o : Option Standing) → Stands history v who o → is_some (member_of o) ≡ true → IsNamed history v who
  named_if None stands is = absurd (true≢false (sym is))
  named_if (Some (Member status number)) stands is = stands.0
  named_if (Some (Buried confirmed)) stands is = absurd (true≢false (sym is))

  pub member_named : is_member (view history v).standings who ≡ true → IsNamed history v who
  member_named is = named_if (map.get (view history v).standings who) (standings_shown history v who) is

  -- a member is named, and a tombstone was removed
  known_if : (o : Option Standing) → Stands history v who o → is_some o ≡ true → IsNamed history v who ⊎ IsRemoved history v who
  known_if None stands is = absurd (true≢false (sym is))
  known_if (Some (Member status number)) stands is = inl stands.0
  known_if (Some (Buried confirmed)) stands is = inr stands.0

  pub known_named : is_known (view history v).standings who ≡ true → IsNamed history v who ⊎ IsRemoved history v who
  known_named is = known_if (map.get (view history v).standings who) (standings_shown history v who) is

  -- a confirmed tombstone was removed as one that has stopped
  confirmed_if : (o : Option Standing) → Stands history v who o → tombstone_of o ≡ Some true → Did history v (Removed who true)
  confirmed_if None stands is = absurd (true≢false (sym (ap is_some is)))
  confirmed_if (Some (Member status number)) stands is = absurd (true≢false (sym (ap is_some is)))
  confirmed_if (Some (Buried confirmed)) stands is = stands.1.0 (same_Some confirmed true is)

  pub confirmed_did : tombstone_of (map.get (view history v).standings who) ≡ Some true → Did history v (Removed who true)
  confirmed_did is = confirmed_if (map.get (view history v).standings who) (standings_shown history v who) is

-- who has entries wrote one
abbrev pub Wrote : UniqueModel → List Entry → Type 0
Wrote who history = (e : Entry) × Contains history e × (e.author ≡ who)

pub has_written : (history : List Entry) (who : UniqueModel) → 1 ≤ entries_of who history → Wrote who history
has_written [] who some = absurd (omega arith)
has_written (e ∷ history) who some = by_author (is_eq (unique_cmp who e.author)) refl some (has_written history who)
  where
    by_author : (b : Bool) → is_eq (unique_cmp who e.author) ≡ b → 1 ≤ (if b then entries_of who history + 1 else entries_of who history) → (1 ≤ entries_of who history → Wrote who history) → Wrote who (e ∷ history)
    by_author true tied some rest = (e, contains_first e history, sym (same_key who e.author tied))
    by_author false tied some rest = let h = rest some in (h.0, contains_rest e h.0 history h.1, h.2)

-- the subjects of a list of effects are those of one of them
pub subjects_in : (effects : List Effect) (subjects : UniqueSet) → observed effects ≡ Some subjects → Contains effects (Observed subjects)
subjects_in [] subjects is = absurd (true≢false (sym (ap is_some is)))
subjects_in (Joined who ∷ effects) subjects is = contains_rest _ _ effects (subjects_in effects subjects is)
subjects_in (Rise who status number ∷ effects) subjects is = contains_rest _ _ effects (subjects_in effects subjects is)
subjects_in (Removed who confirmed ∷ effects) subjects is = contains_rest _ _ effects (subjects_in effects subjects is)
subjects_in (Observed seen ∷ effects) subjects is = by_later (observed effects) refl is (subjects_in effects subjects)
  where
    by_later : (o : Option UniqueSet) → observed effects ≡ o → observed_by (Observed seen) o ≡ Some subjects → (observed effects ≡ Some subjects → Contains effects (Observed subjects)) → Contains (Observed seen ∷ effects) (Observed subjects)
    by_later None at is rest = subst (λ s. Contains (Observed seen ∷ effects) (Observed s)) (same_Some seen subjects is) (contains_first _ effects)
    by_later (Some later) at is rest = contains_rest _ _ effects (rest (at ∙ is))
