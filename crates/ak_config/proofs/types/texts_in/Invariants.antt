use Rattle.std.proofs.Common.{◌≡◌, drop}
use Rattle.toml.specs.View.{items_view}
use Rattle.ak_config.specs.Configuration.{texts_in}
use Rattle.ak_config.proofs.ListingLemmas.{with_first}
use Rattle.ak_config.proofs.types.texts_in.Given as goal

abbrev pub invariant-items : goal.invariant-items
invariant-items l = texts_in l.key (items_view l.items) ≡ with_first l.texts.items (texts_in l.key (items_view (drop l.item-index l.items)))
