use Rattle.std.proofs.Common.{◌≡◌, drop}
use Rattle.toml.specs.View.{items_view}
use Rattle.ak_config.specs.Configuration.{are_texts}
use Rattle.ak_config.proofs.listing.are_texts.Given as goal

abbrev pub invariant-items : goal.invariant-items
invariant-items l = are_texts (items_view l.items) ≡ are_texts (items_view (drop l.item-index l.items))
