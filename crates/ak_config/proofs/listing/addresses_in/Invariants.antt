use Rattle.std.proofs.Common.{◌≡◌, drop, length}
use Rattle.std.specs.List.{AllByRecursion}
use Rattle.std.specs.Prelude.{option_map}
use Rattle.toml.specs.View.{items_view}
use Rattle.ak_address.specs.Unique.{IsAddress}
use Rattle.ak_config.specs.Configuration.{addresses_in}
use Rattle.ak_config.specs.ConfigContracts.{MayStand}
use Rattle.ak_config.proofs.ListingLemmas.{with_first}
use Rattle.ak_config.proofs.listing.addresses_in.Given as goal

abbrev pub invariant-items : goal.invariant-items
invariant-items l = record {
  count : length l.listed.items ≡ l.item-index;
  ranges : AllByRecursion IsAddress l.listed.items;
  among : MayStand (option_map (λ some. some.now) l.among) l.listed.items;
  read : addresses_in l.key (option_map (λ some. some.now) l.among) (items_view l.items)
      ≡ with_first l.listed.items (addresses_in l.key (option_map (λ some. some.now) l.among) (items_view (drop l.item-index l.items)));
}
