-- Loads are of processes that aged and have granted.
use Rattle.std.proofs.Common.{◌≡◌, inl, inr, List, [], ◌∷◌, ℕ, Contains, Option, None, Some, IsTrue, refl, sym, ap, ◌∙◌, subst}
use Rattle.std.specs.FinMap as finmap
use Rattle.std.specs.List.{filter}
use Rattle.ak_address.specs.Unique.{UniqueModel}
use Rattle.ak_address.specs.Uniques.{UniqueSet, has}
use Rattle.ak_address.proofs.Elements.{contains_first, contains_rest, contains_nothing, first_or_rest, in_map, in_filter, index_of}
use Rattle.ak_address.proofs.TableLaws.{get_at}
use Rattle.ak_address.proofs.BoolLemmas.{both_true}
use Rattle.ak_allocation.specs.declared.load.Load.{Load}
use Rattle.ak_clock.specs.Version.{Counts}
use Rattle.ak_coordinator.specs.Table.{ShardTable}
use Rattle.ak_coordinator.specs.Coordinator.{load_of, may_host, loads_of}
use Rattle.ak_member.specs.declared.standing.Standing.{Standing}
use Rattle.ak_member.specs.declared.status.Status.{Status}
use Rattle.ak_member.specs.Standing.{as_member, pair_of, member_pairs, member_of, is_up}
use Rattle.ak_settled.specs.SettledView.{SettledView}
use Rattle.ak_settled.specs.Settled.{version_of, standings_of}
use Rattle.ak_sharding.specs.Sharing.{HaveRisen}

-- a pair of a member is that of one of the standings
member_there : (pairs : List (UniqueModel × Standing)) (pair : UniqueModel × (Status × ℕ)) → Contains (member_pairs pairs) pair → (standing : Standing) × Contains pairs (pair.0, standing) × (as_member standing ≡ Some pair.1)
member_there [] pair there = absurd (contains_nothing pair there)
member_there (first ∷ pairs) pair there = by_first (as_member first.1) refl (member_there pairs pair) there
  where
    by_first : (o : Option (Status × ℕ)) → as_member first.1 ≡ o → (Contains (member_pairs pairs) pair → (standing : Standing) × Contains pairs (pair.0, standing) × (as_member standing ≡ Some pair.1))
        → Contains (pair_of first.0 o (member_pairs pairs)) pair → (standing : Standing) × Contains (first ∷ pairs) (pair.0, standing) × (as_member standing ≡ Some pair.1)
    by_first None is rest there = let r = rest there in (r.0, contains_rest first (pair.0, r.0) pairs r.1, r.2)
    by_first (Some member) is rest there = elim (first_or_rest (first.0, member) pair (member_pairs pairs) there) [
      | inl same ↦ (
        first.1,
        subst (λ (who : UniqueModel). Contains (first ∷ pairs) (who, first.1)) (sym (ap (λ (p : UniqueModel × (Status × ℕ)). p.0) same)) (contains_first first pairs),
        is ∙ ap (λ (p : UniqueModel × (Status × ℕ)). Some p.1) (sym same),
      )
      | inr later ↦ let r = rest later in (r.0, contains_rest first (pair.0, r.0) pairs r.1, r.2)
    ]

pub loads_are : (aged : Counts → UniqueModel → Type 0) (settled : SettledView) → HaveRisen aged settled → (table : ShardTable) (granted : UniqueSet) (load : Load) → Contains (loads_of table granted (standings_of settled)) load
    → aged (version_of settled) load.unique × IsTrue (has granted load.unique)
loads_are aged settled risen table granted load there =
    let m = in_map (λ (pair : UniqueModel × (Status × ℕ)). load_of table pair.0) (filter (may_host granted) (member_pairs (finmap.entries (standings_of settled)))) load there in
    let f = in_filter (may_host granted) (member_pairs (finmap.entries (standings_of settled))) m.0 m.1 in
    let t = both_true (is_up m.0.1.0) (has granted m.0.0) f.1 in
    let w = member_there (finmap.entries (standings_of settled)) m.0 f.0 in
    let i = index_of (finmap.entries (standings_of settled)) (m.0.0, w.0) w.1 in
    let g = get_at (standings_of settled) i.0 (m.0.0, w.0) i.1 in
    let who : m.0.0 ≡ load.unique = ap (λ (l : Load). l.unique) (sym m.2) in (
      subst (aged (version_of settled)) who (risen m.0.0 m.0.1.0 m.0.1.1 (ap member_of g ∙ w.2) t.0),
      subst (λ q. IsTrue (has granted q)) who t.1,
    )
