use Rattle.std.proofs.Common.{◌≡◌}
use Rattle.std.specs.List.Sorted.{IsStrictlySortedBy}
use Rattle.std.specs.String.{string_cmp}
use Rattle.toml.specs.View.{table_view}
use Rattle.ak_config.specs.Configuration.{least_unknown}
use Rattle.ak_config.proofs.KeyLemmas.{least_in}
use Rattle.ak_config.proofs.keys.known_keys.Given as goal

abbrev pub invariant-keys : goal.invariant-keys
invariant-keys l = IsStrictlySortedBy string_cmp l.key-iterator × (least_unknown (table_view l.table) ≡ least_in l.key-iterator)
