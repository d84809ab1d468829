-- What a call that reads a configuration answers.
use Rattle.std.specs.Prelude.{◌≡◌, ◌<◌, ◌≤◌, ◌^◌, IsTrue, List, length, Option, Some, Result, Ok, Err}
use Rattle.std.specs.List.{AllByRecursion}
use Rattle.ak_address.specs.Unique.{AddressModel, IsAddress}
use Rattle.ak_settings.specs.Settings.{IsWithin, IsStrategy, MayBeTypes, is_listed}
use Rattle.ak_config.specs.declared.config.Config.{Config}
use Rattle.ak_config.specs.declared.entries.Entries.{Entries}
use Rattle.ak_config.specs.declared.entries.Limits.{Limits}
use Rattle.ak_config.specs.declared.entries.Running.{Running}
use Rattle.ak_config.specs.declared.fault.ConfigFault.{ConfigFault}
use Rattle.ak_config.specs.Configuration.{EntriesModel, may_stand}
use Rattle.ak_config.specs.declared.fault.ConfigFault.TheVariants.{NotToml, Missing, Unknown, WrongType, Range, BadAddress, SelfUnlisted, Repeated, NoMemory}

-- a call's fault is the first one, unless memory ran out
abbrev pub Fails : {X : Type 0} → ConfigFault → Result X ConfigFault → Type 0
Fails NotToml read = read ≡ Err NotToml
Fails (Missing key) read = read ≡ Err (Missing key)
Fails (Unknown key) read = read ≡ Err (Unknown key)
Fails (WrongType key) read = read ≡ Err (WrongType key)
Fails (Range key) read = read ≡ Err (Range key)
Fails (BadAddress key) read = read ≡ Err (BadAddress key)
Fails (SelfUnlisted key) read = read ≡ Err (SelfUnlisted key)
Fails (Repeated key) read = read ≡ Err (Repeated key)
Fails (NoMemory _) read = Unit {0}

-- a call answers what reading gives, seen by view, unless memory ran out
abbrev pub GivesAs : {X Y : Type 0} → (X → Y) → Result X ConfigFault → Result Y ConfigFault → Type 0
GivesAs view (Ok value) read = read ≡ Ok (view value)
GivesAs view (Err fault) read = Fails fault read

abbrev pub Gives : {X : Type 0} → Result X ConfigFault → Result X ConfigFault → Type 0
Gives result read = GivesAs (λ value. value) result read

-- 1 to 32 addresses
pub record IsList (listed : List AddressModel) : Type 0 where
  pub count : IsWithin 32 (length listed)
  pub addresses : AllByRecursion IsAddress listed

pub record AreLimits (l : Limits) : Type 0 where
  pub margin : IsWithin 1000000 l.margin
  pub deadline : IsWithin 1000000 l.deadline
  pub stable : IsWithin 1000000 l.stable
  pub shards : IsWithin 1000 l.shards
  pub buffer : IsWithin 100000 l.buffer
  pub threshold : IsWithin 1000 l.threshold
  pub limit : IsWithin 1000 l.limit

-- ticks that lie 1 to 1000000 milliseconds apart, a seed below 2 ^ 63, and at most 1000000 ticks before members are let in
pub record IsRunning (r : Running) : Type 0 where
  pub tick_ms : IsWithin 1000000 r.tick_ms
  pub seed : r.seed < 2 ^ 63
  pub weakly : r.weakly ≤ 1000000

-- each of them may stand in the list
abbrev pub MayStand : Option (List AddressModel) → List AddressModel → Type 0
MayStand among some = AllByRecursion (λ a. IsTrue (may_stand among a)) some

-- entries as a document says them
abbrev pub entries_view : Entries → EntriesModel
entries_view e = record { me = e.me; listed = e.listed.items; strategy = e.strategy; limits = e.limits; running = e.running; role = e.role.items; types = e.types.items }

-- each entry is in its range
pub record AreEntries (e : EntriesModel) : Type 0 where
  pub listed : IsList e.listed
  pub strategy : IsStrategy e.strategy
  pub limits : AreLimits e.limits
  pub running : IsRunning e.running
  pub role : IsList e.role
  pub among : MayStand (Some e.listed) e.role
  pub types : MayBeTypes e.limits.shards e.types

-- the node's own address is listed, and its numbers are in their ranges
pub record IsConfig (c : Config) : Type 0 where
  pub own : IsTrue (is_listed c.settings.listed c.me.address)
  pub tick_ms : IsWithin 1000000 c.tick_ms
  pub seed : c.seed < 2 ^ 63
