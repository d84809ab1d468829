-- Two views that have the same processes at the same pairs, and show each alike.
use Rattle.std.proofs.Common.{◌≡◌, ℕ, Bool, true, false, not, ◌||◌, [], ◌∷◌, IsTrue, Option, None, is_some, option_map, slice_get, Some, option_to_list, refl, sym, ap, ◌∙◌}
use Rattle.std.proofs.lemmas.Option.{none-some, same_Some}
use Rattle.std.specs.List.{list_any}
use Rattle.std.specs.FinMap as map
use Rattle.ak_address.specs.Unique.{UniqueModel}
use Rattle.ak_address.specs.Uniques.{has}
use Rattle.ak_address.proofs.TableLaws.{get_at}
use Rattle.ak_member.specs.declared.status.Status.{Status}
use Rattle.ak_member.specs.declared.standing.Standing.{Standing}
use Rattle.ak_member.specs.declared.standing.Standing.TheVariants.{Member, Buried}
use Rattle.ak_member.specs.Standing.{Standings, member_of, is_member, member_pairs}
use Rattle.ak_member.specs.View.{View, RowTable}
use Rattle.ak_reach.specs.Unreachable.{unreachable_members}
use Rattle.ak_sight.specs.Sight.{sight, shown, is_same_sight, is_otherwise, is_otherwise_at}
use Rattle.ak_sight.proofs.SightLaws.{sight_itself}
use Rattle.ak_sight.proofs.MovedLaws.{same_sight}

-- ---- what is known of members alone
-- a member is observed or not as it is unreachable or not
pub observed_in : (v : View) (standings : Standings) (rows : RowTable) (who : UniqueModel) (b : Bool) → standings ≡ v.standings → rows ≡ v.rows
    → (IsTrue (is_member standings who) → b ≡ has (unreachable_members (record { standings = standings; rows = rows })) who) → IsTrue (is_member v.standings who) → b ≡ has (unreachable_members v) who
observed_in v standings rows who b same same_rows is member = is (ap (λ s. is_member s who) same ∙ member) ∙ (λ i. has (unreachable_members (record { standings = same i; rows = same_rows i })) who)

-- whoever is found is a member, and what a view shows of it
found_member : (who k : UniqueModel) (m : Status × ℕ) (o : Option (Status × ℕ)) → Some (k, m) ≡ option_map {U = UniqueModel × (Status × ℕ)} (λ x. (who, x)) o → o ≡ Some m
found_member who k m None is = absurd (none-some (k, m) (sym is))
found_member who k m (Some x) is = ap (λ (p : UniqueModel × (Status × ℕ)). Some p.1) (sym (same_Some (k, m) (who, x) is))

pub sight_found : (v : View) (who k : UniqueModel) (m : Status × ℕ) (lost : Bool) → Some (k, m) ≡ option_map {U = UniqueModel × (Status × ℕ)} (λ x. (who, x)) (member_of (map.get v.standings who)) → (IsTrue (is_member v.standings who) → lost ≡ has (unreachable_members v) who)
    → Some (m.0, lost) ≡ sight v who
sight_found v who k m lost is reached =
    let found = found_member who k m (member_of (map.get v.standings who)) is in
    ap (λ b. Some (m.0, b)) (reached (ap is_some found)) ∙ ap (option_map (λ (x : Status × ℕ). (x.0, has (unreachable_members v) who))) (sym found)

-- ---- at pairs
-- what a view shows of the process at a pair
sight_shown : (v : View) (pair : ℕ) (who : UniqueModel) (standing : Standing) → slice_get (map.entries v.standings) pair ≡ Some (who, standing) → sight v who ≡ shown v who standing
sight_shown v pair who standing is = ap (λ o. option_map (λ (m : Status × ℕ). (m.0, has (unreachable_members v) who)) (member_of o)) (get_at v.standings pair (who, standing) is)

-- a process that both show alike is shown otherwise at no pair of it
not_otherwise : (v w : View) (pair : ℕ) (who : UniqueModel) (standing : Standing) → slice_get (map.entries v.standings) pair ≡ Some (who, standing) → sight v who ≡ sight w who → false ≡ is_otherwise_at v w pair
not_otherwise v w pair who standing is same =
    sym (ap (λ o. list_any (λ (m : UniqueModel × (Status × ℕ)). is_otherwise v w m.0) (member_pairs (option_to_list o))) is ∙ by_standing standing)
  where
    alike : is_otherwise v w who ≡ false
    alike = ap (λ o. not (is_same_sight (sight v who) o)) (sym same) ∙ ap not (sight_itself (sight v who))

    by_standing : (standing : Standing) → list_any (λ (m : UniqueModel × (Status × ℕ)). is_otherwise v w m.0) (member_pairs ((who, standing) ∷ [])) ≡ false
    by_standing (Member status number) = ap (λ b. b || false) alike
    by_standing (Buried confirmed) = refl

pub alike_at : (v w : View) (pair : ℕ) (who other : UniqueModel) (standing other_standing : Standing)
    → slice_get (map.entries v.standings) pair ≡ Some (who, standing) → slice_get (map.entries w.standings) pair ≡ Some (other, other_standing) → who ≡ other
    → is_same_sight (shown v who standing) (shown w who other_standing) ≡ true → (false ≡ is_otherwise_at v w pair) × (false ≡ is_otherwise_at w v pair)
alike_at v w pair who other standing other_standing at other_at is alike =
    (not_otherwise v w pair who standing at same, not_otherwise w v pair who other_standing there (sym same))
  where
    there : slice_get (map.entries w.standings) pair ≡ Some (who, other_standing)
    there = other_at ∙ ap (λ (u : UniqueModel). Some (u, other_standing)) (sym is)

    same : sight v who ≡ sight w who
    same = same_sight (sight v who) (sight w who) ((λ i. is_same_sight (sight_shown v pair who standing at i) (sight_shown w pair who other_standing there i)) ∙ alike)
