-- An entry that may be made: one that observes.
use Rattle.std.proofs.Common.{◌≡◌, inl, inr, ◌<◌, true, IsTrue, List, [], ◌∷◌, Option, Some, None, is_some, option_map, sym, ap, ◌∙◌, subst, true≢false}
use Rattle.std.proofs.lemmas.Option.{same_Some}
use Rattle.std.specs.FinMap as map
use Rattle.std.specs.Ordering.{eq_by_cmp}
use Rattle.ak_address.specs.Unique.{UniqueModel, unique_cmp}
use Rattle.ak_address.specs.Uniques.{UniqueSet, no_one, has, with_one}
use Rattle.ak_address.proofs.TableLaws.{same_key}
use Rattle.ak_address.proofs.UniquesLaws.{has-no_one, has-with_one}
use Rattle.ak_address.proofs.BoolLemmas.{or_either}
use Rattle.ak_clock.specs.declared.version.TheConstants.{BOUND}
use Rattle.ak_clock.specs.Version.{count}
use Rattle.ak_member.specs.declared.effect.Effect.{Effect}
use Rattle.ak_member.specs.declared.effect.Effect.TheVariants.{Observed}
use Rattle.ak_member.specs.Standing.{is_member}
use Rattle.ak_gossip.specs.Gossip.{GossipState, is_known, IsGossip, MayUpdate}
use Rattle.ak_gossip.proofs.InvariantLemmas.{member_known}

-- what a call found is there
pub found_there : {A B : Type 0} (f : A → B) (r : Option A) (o : Option B) → option_map f r ≡ o → is_some r ≡ true → is_some o ≡ true
found_there f None o is some = absurd (true≢false (sym some))
found_there f (Some x) o is some = sym (ap is_some is)

-- an entry that finds one process unreachable
pub found_may : (author who : UniqueModel) (subjects : UniqueSet) (effects : List Effect) (g : GossipState) → effects ≡ Observed subjects ∷ [] → subjects ≡ with_one no_one who
    → IsGossip g → count g.version author < BOUND → IsTrue (is_member g.view.standings author) → IsTrue (is_member g.view.standings who) → MayUpdate author effects g
found_may author who subjects effects g is one p room stays found = subst (λ e. MayUpdate author e g) (sym is) (record {
  below_bound = room;
  stays = stays;
  subjects = λ them subject observes in_them. alone subject (subst (λ s. IsTrue (has s subject)) (sym (same_Some subjects them observes) ∙ one) in_them);
  standings = p.standings;
  few = p.few;
})
  where
    alone : (subject : UniqueModel) → IsTrue (has (with_one no_one who) subject) → IsTrue (is_known g.view.standings subject)
    alone subject h = elim (or_either (eq_by_cmp unique_cmp subject who) (has no_one subject) (sym (has-with_one no_one who subject) ∙ h)) [
      | inl tied ↦ ap (is_known g.view.standings) (same_key subject who tied) ∙ member_known (map.get g.view.standings who) found
      | inr there ↦ absurd (true≢false (sym there ∙ has-no_one subject))
    ]
