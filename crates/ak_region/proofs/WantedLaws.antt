-- Which shards are wanted.
use Rattle.std.proofs.Common.{◌≡◌, ◌↔◌, ℕ, Bool, true, false, not, ◌==◌, List, Contains, refl, sym, ap, ◌∙◌, subst}
use Rattle.std.specs.List.{filter}
use Rattle.std.proofs.lemmas.Bool.{eqb-true, eq-eqb}
use Rattle.ak_address.proofs.Elements.{any_there, any_found, in_filter, filter_in}
use Rattle.ak_address.proofs.BoolLemmas.{not_true}
use Rattle.ak_region.specs.Slot.{receives}
use Rattle.ak_region.specs.RegionModel.{RegionModel}
use Rattle.ak_region.specs.Region.{slot_of, firsts, waiting_shards, wanted}
use Rattle.ak_region.proofs.FirstsLemmas.{has_number, firsts_have}

has_one : (ns : List ℕ) (n : ℕ) → Contains ns n → has_number ns n ≡ true
has_one ns n there = any_there (λ m. m == n) ns n there (eq-eqb n n refl)

one_there : (ns : List ℕ) (n : ℕ) → has_number ns n ≡ true → Contains ns n
one_there ns n has = let f = any_found (λ m. m == n) ns has in subst (Contains ns) (eqb-true f.0 n f.2) f.1

same_members : (ns : List ℕ) (n : ℕ) → Contains (firsts ns) n ↔ Contains ns n
same_members ns n = (λ there. one_there ns n (sym (firsts_have ns n) ∙ has_one (firsts ns) n there), λ there. one_there (firsts ns) n (firsts_have ns n ∙ has_one ns n there))

pub wanted_is : (region : RegionModel) (shard : ℕ) → Contains (wanted region) shard ↔ (Contains (waiting_shards region) shard × (receives (slot_of region shard) ≡ false))
wanted_is region shard =
    let serves : ℕ → Bool = λ s. not (receives (slot_of region s)) in
    let same = same_members (filter serves (waiting_shards region)) shard in (
      λ there. let h = in_filter serves (waiting_shards region) shard (same.0 there) in (h.0, not_true (receives (slot_of region shard)) h.1),
      λ h. same.1 (filter_in serves (waiting_shards region) shard h.0 (ap not h.1)),
    )
