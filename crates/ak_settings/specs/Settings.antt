-- The settings of a run: at which addresses processes may start, and through which they may join, and the limits of the
-- rules. Ranges are this project's choice.
use Rattle.std.specs.Prelude.{◌≡◌, ◌≢◌, ℕ, nat_eq, nat_le, ◌*◌, ◌≤◌, ◌⊎◌, ◌&&◌, Bool, true, false, not, IsTrue, List, [], ◌∷◌, length, Contains, refl}
use Rattle.std.proofs.Common.{inl, inr}
use Rattle.std.specs.Coded.{Coded, code_by, coded×, coded⊎, coded_ℕ, coded_bool, coded_list}
use Rattle.std.specs.List.{AllByRecursion, AllPairs, list_all, list_any}
use Rattle.std.specs.Cmp.Lexicographic.{pointwise}
use Rattle.ak_address.specs.Distinct.{is_among}
use Rattle.ak_address.specs.Unique.{AddressModel, IsAddress, coded_address}
use Rattle.ak_shard_id.specs.Division.{DivisionModel, is_type_name, many_shards, entity_ok, shard_in}
use Rattle.ak_settings.specs.declared.settings.Strategy.{Strategy}
use Rattle.ak_settings.specs.declared.settings.Strategy.TheVariants.{StaticQuorum, KeepMajority, KeepOldest, DownAll}

pub record SettingsModel : Type 0 where
  pub listed : List AddressModel
  pub strategy : Strategy
  pub margin : ℕ
  pub deadline : ℕ
  pub stable : ℕ
  pub shards : ℕ
  pub buffer : ℕ
  pub threshold : ℕ
  pub limit : ℕ
  pub weakly : ℕ
  pub role : List AddressModel
  pub types : List (List ℕ)

-- from 1 to most
pub record IsWithin (most n : ℕ) : Type 0 where
  pub from : 1 ≤ n
  pub to : n ≤ most

-- 1 to 32 different addresses
pub record IsListing (listed : List AddressModel) : Type 0 where
  pub count : IsWithin 32 (length listed)
  pub addresses : AllByRecursion IsAddress listed
  pub different : AllPairs (λ a b. a ≢ b) listed

-- 1 to 32 different addresses, all of them listed: those that have the role
pub record IsRole (listed role : List AddressModel) : Type 0 where
  pub listing : IsListing role
  pub among : (a : AddressModel) → Contains role a → Contains listed a

-- at most 8 different names of types, each of which has so many shards: at most 1000 for all of them
pub record AreTypes (shards : ℕ) (types : List (List ℕ)) : Type 0 where
  pub few : length types ≤ 8
  pub names : AllByRecursion (λ name. IsTrue (is_type_name name)) types
  pub different : AllPairs (λ a b. a ≢ b) types
  pub within : length types * shards ≤ 1000

-- the same but that they are different
pub record MayBeTypes (shards : ℕ) (types : List (List ℕ)) : Type 0 where
  pub few : length types ≤ 8
  pub names : AllByRecursion (λ name. IsTrue (is_type_name name)) types
  pub within : length types * shards ≤ 1000

abbrev pub may_be_types : ℕ → List (List ℕ) → Bool
may_be_types shards types = (nat_le (length types) 8 && list_all is_type_name types) && nat_le (length types * shards) 1000

abbrev pub IsStrategy : Strategy → Type 0
IsStrategy (StaticQuorum quorum) = IsWithin 32 quorum
IsStrategy KeepMajority = Unit {0}
IsStrategy (KeepOldest alone) = Unit {0}
IsStrategy DownAll = Unit {0}

pub record IsSettings (s : SettingsModel) : Type 0 where
  pub listed : IsListing s.listed
  pub strategy : IsStrategy s.strategy
  pub margin : IsWithin 1000000 s.margin
  pub deadline : IsWithin 1000000 s.deadline
  pub stable : IsWithin 1000000 s.stable
  pub shards : IsWithin 1000 s.shards
  pub buffer : IsWithin 100000 s.buffer
  pub threshold : IsWithin 1000 s.threshold
  pub limit : IsWithin 1000 s.limit
  pub weakly : s.weakly ≤ 1000000
  pub role : IsRole s.listed s.role
  pub types : AreTypes s.shards s.types

-- how the settings divide entities into shards
abbrev pub division_of : SettingsModel → DivisionModel
division_of s = record { types = s.types; each = s.shards }

-- how many shards there are
abbrev pub number_of_shards : SettingsModel → ℕ
number_of_shards s = many_shards (division_of s)

-- a text is an entity
abbrev pub is_entity_in : SettingsModel → List ℕ → Bool
is_entity_in s entity = entity_ok (division_of s) entity

-- the shard of an entity
abbrev pub shard_by : SettingsModel → List ℕ → ℕ
shard_by s entity = shard_in (division_of s) entity

-- an address is listed: a process may start there, and join through it
abbrev pub is_listed : List AddressModel → AddressModel → Bool
is_listed listed a = is_among listed a

-- no address stands twice
abbrev pub all_different : List AddressModel → Bool
all_different [] = true
all_different (a ∷ others) = not (is_listed others a) && all_different others

-- a text is one of these
abbrev pub is_text_among : List (List ℕ) → List ℕ → Bool
is_text_among texts text = list_any (λ each. pointwise nat_eq each text) texts

-- no text stands twice
abbrev pub all_texts_differ : List (List ℕ) → Bool
all_texts_differ [] = true
all_texts_differ (text ∷ others) = not (is_text_among others text) && all_texts_differ others

-- what is said of shards where nobody chooses: as many shards and as many waiting messages as there may be, a shard moves where
-- a region has more than one more than another, and three may move at the same time
abbrev pub default_shards : ℕ
default_shards = 1000

abbrev pub default_buffer : ℕ
default_buffer = 100000

abbrev pub default_threshold : ℕ
default_threshold = 1

abbrev pub default_limit : ℕ
default_limit = 3

-- settings that say of shards what is said where nobody chooses
abbrev pub of_membership : List AddressModel → Strategy → ℕ → ℕ → ℕ → SettingsModel
of_membership listed strategy margin deadline stable = record {
  listed = listed;
  strategy = strategy;
  margin = margin;
  deadline = deadline;
  stable = stable;
  shards = default_shards;
  buffer = default_buffer;
  threshold = default_threshold;
  limit = default_limit;
  weakly = 0;
  role = listed;
  types = [];
}

-- how many addresses a settled view counts at least
abbrev pub settling_size : Strategy → ℕ
settling_size (StaticQuorum quorum) = quorum
settling_size KeepMajority = 1
settling_size (KeepOldest alone) = 1
settling_size DownAll = 1

-- a strategy is stored as what it carries, a quorum or a flag, or as one of the two that carry nothing
abbrev pub Stored : Type 0
Stored = ℕ ⊎ (Bool ⊎ Bool)

abbrev pub stored_strategy : Strategy → Stored
stored_strategy (StaticQuorum quorum) = inl quorum
stored_strategy (KeepOldest alone) = inr (inl alone)
stored_strategy KeepMajority = inr (inr true)
stored_strategy DownAll = inr (inr false)

abbrev pub strategy_from : Stored → Strategy
strategy_from (inl quorum) = StaticQuorum quorum
strategy_from (inr (inl alone)) = KeepOldest alone
strategy_from (inr (inr true)) = KeepMajority
strategy_from (inr (inr false)) = DownAll

pub stored_again : (s : Strategy) → strategy_from (stored_strategy s) ≡ s
stored_again (StaticQuorum quorum) = refl
stored_again (KeepOldest alone) = refl
stored_again KeepMajority = refl
stored_again DownAll = refl

abbrev pub coded_strategy : Coded Strategy
coded_strategy = code_by Stored (coded⊎ coded_ℕ (coded⊎ coded_bool coded_bool)) stored_strategy strategy_from stored_again

-- settings are stored as their fields, in pairs
abbrev pub coded_settings : Coded SettingsModel
coded_settings =
    code_by (List AddressModel × (Strategy × (ℕ × (ℕ × (ℕ × (ℕ × (ℕ × (ℕ × (ℕ × (ℕ × (List AddressModel × List (List ℕ))))))))))))
    (coded× (coded_list coded_address) (coded× coded_strategy (coded× coded_ℕ (coded× coded_ℕ (coded× coded_ℕ (coded× coded_ℕ (coded× coded_ℕ (coded× coded_ℕ (coded× coded_ℕ (coded× coded_ℕ (coded× (coded_list coded_address) (coded_list (coded_list coded_ℕ)))))))))))))
    (λ s. (s.listed, (s.strategy, (s.margin, (s.deadline, (s.stable, (s.shards, (s.buffer, (s.threshold, (s.limit, (s.weakly, (s.role, s.types))))))))))))
    (λ p. record {
      listed = p.0;
      strategy = p.1.0;
      margin = p.1.1.0;
      deadline = p.1.1.1.0;
      stable = p.1.1.1.1.0;
      shards = p.1.1.1.1.1.0;
      buffer = p.1.1.1.1.1.1.0;
      threshold = p.1.1.1.1.1.1.1.0;
      limit = p.1.1.1.1.1.1.1.1.0;
      weakly = p.1.1.1.1.1.1.1.1.1.0;
      role = p.1.1.1.1.1.1.1.1.1.1.0;
      types = p.1.1.1.1.1.1.1.1.1.1.1;
    })
    (λ _. refl)
