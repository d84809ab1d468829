use Rattle.std.proofs.Common.{◌≡◌, true}
use Rattle.std.proofs.lemmas.List.Elements.{All-from_recursion, All-contains}
use Rattle.std.specs.Prelude.{IsTrue, List}
use Rattle.ak_address.specs.Unique.{AddressModel}
use Rattle.ak_address.proofs.AmongLaws.{contains_from}
use Rattle.ak_settings.specs.Settings.{IsListing, all_different, is_listed}
use Rattle.ak_settings.proofs.Different.{different_pairs}
use Rattle.ak_settings.proofs.Names.{texts_apart, types_of}
use Rattle.ak_config.specs.ConfigContracts.{IsList}
use Rattle.ak_config.proofs.config.config_of.Goals as goal

listing : (some : List AddressModel) → IsList some → all_different some ≡ true → IsListing some
listing some is different = record { count = is.count; addresses = is.addresses; different = different_pairs some different }

pub invariant_of-settings : goal.invariant_of-settings
invariant_of-settings c =
    let ranges = c.requires.ranges in
    let listed = c.args.entries.listed.items in
    let role = c.args.entries.role.items in
    record {
      listed = listing listed ranges.listed c.requires.listed;
      strategy = ranges.strategy;
      margin = ranges.limits.margin;
      deadline = ranges.limits.deadline;
      stable = ranges.limits.stable;
      shards = ranges.limits.shards;
      buffer = ranges.limits.buffer;
      threshold = ranges.limits.threshold;
      limit = ranges.limits.limit;
      weakly = ranges.running.weakly;
      role = record {
        listing = listing role ranges.role c.requires.role;
        among = λ a there. contains_from listed a (All-contains (λ x. IsTrue (is_listed listed x)) role a (All-from_recursion (λ x. IsTrue (is_listed listed x)) role ranges.among) there);
      };
      types = types_of c.args.entries.limits.shards c.args.entries.types.items ranges.types (texts_apart c.args.entries.types.items c.requires.types);
    }
