-- What the configuration of a node says, key by key in the order in which they are read, over the values that a TOML document
-- has (keys, ranges and defaults are this project's choice).
use Rattle.std.specs.Prelude.{ℕ, ℤ, pos, negsuc, suc, ◌-◌, ◌^◌, Bool, true, false, ◌&&◌, nat_le, nat_eq, List, [], ◌∷◌, length, codes, Option, Some, None, Result, Ok, Err, if◌then◌else◌, is_some}
use Rattle.std.specs.List.{list_any}
use Rattle.std.specs.Ordering.{nat_cmp, match_ordering}
use Rattle.std.specs.Cmp.Lexicographic.{slice_cmp, pointwise}
use Rattle.std.specs.Str.{is_utf8}
use Rattle.toml.specs.Data.{Data, Items, no_items, item, Members, no_members, member, get_member, as_str, as_integer, as_bool, as_array}
use Rattle.toml.specs.Parse.{parse_document}
use Rattle.ak_address.specs.Unique.{AddressModel, UniqueModel}
use Rattle.ak_settings.specs.declared.settings.Strategy.{Strategy}
use Rattle.ak_settings.specs.declared.settings.Strategy.TheVariants.{StaticQuorum, KeepMajority, KeepOldest, DownAll}
use Rattle.ak_settings.specs.Settings.{is_listed, all_different, all_texts_differ, may_be_types, default_shards, default_buffer, default_threshold, default_limit}
use Rattle.ak_config.specs.declared.config.Config.{Config}
use Rattle.ak_config.specs.declared.fault.ConfigFault.{ConfigFault}
use Rattle.ak_config.specs.declared.fault.ConfigFault.TheVariants.{NotToml, Missing, Unknown, WrongType, Range, BadAddress, SelfUnlisted, Repeated}
use Rattle.ak_config.specs.declared.entries.Limits.{Limits}
use Rattle.ak_config.specs.declared.entries.Running.{Running}
use Rattle.ak_config.specs.Address.{spelled_address}

-- what a document says at its keys, each by itself
pub record EntriesModel : Type 0 where
  pub me : UniqueModel
  pub listed : List AddressModel
  pub strategy : Strategy
  pub limits : Limits
  pub running : Running
  pub role : List AddressModel
  pub types : List (List ℕ)

-- first the one, and then what is made of it; the first fault ends it
infixl 10 ◌>>=◌
abbrev pub ◌>>=◌ : {A B : Type 0} → Result A ConfigFault → (A → Result B ConfigFault) → Result B ConfigFault
(Ok x) >>= f = f x
(Err fault) >>= f = Err fault

-- the keys that a configuration may have
abbrev pub keys : List (List ℕ)
keys =
    codes "self" ∷ codes "uid" ∷ codes "listed" ∷ codes "strategy" ∷ codes "quorum" ∷ codes "down-if-alone" ∷ codes "margin" ∷ codes "deadline" ∷ codes "stable" ∷ codes "shards"
    ∷ codes "buffer" ∷ codes "threshold" ∷ codes "limit" ∷ codes "tick-ms" ∷ codes "seed" ∷ codes "found" ∷ codes "join" ∷ codes "weakly" ∷ codes "role" ∷ codes "types" ∷ []

abbrev pub is_key : List ℕ → Bool
is_key name = list_any (λ key. pointwise nat_eq key name) keys

-- the lesser of a key and another, where there is one, in the order of their bytes
abbrev pub lesser : List ℕ → Option (List ℕ) → List ℕ
lesser k None = k
lesser k (Some l) = match_ordering (slice_cmp nat_cmp k l) k k l

-- the least key of a document that none may have
abbrev pub least_unknown : Members → Option (List ℕ)
least_unknown no_members = None
least_unknown (member k value others) = if is_key k then least_unknown others else Some (lesser k (least_unknown others))

-- there is no such key
abbrev pub nothing_unknown : Option (List ℕ) → Result (Unit {0}) ConfigFault
nothing_unknown None = Ok tt
nothing_unknown (Some k) = Err (Unknown k)

unfoldable pub known_keys : Members → Result (Unit {0}) ConfigFault
known_keys t = nothing_unknown (least_unknown t)

-- a value that is there, or of the wanted type, or in its range, or else the fault
abbrev pub or_fault : {A : Type 0} → ConfigFault → Option A → Result A ConfigFault
or_fault fault (Some x) = Ok x
or_fault fault None = Err fault

-- the value at a key that must be there
unfoldable pub required : List ℕ → Members → Result Data ConfigFault
required key t = or_fault (Missing key) (get_member key t)

-- an integer in a range of numbers
abbrev pub number_within : ℕ → ℕ → ℤ → Option ℕ
number_within least most (pos n) = if nat_le least n && nat_le n most then Some n else None
number_within least most (negsuc n) = None

unfoldable pub integer_in : List ℕ → ℕ → ℕ → Data → Result ℕ ConfigFault
integer_in key least most value = do
  number ← or_fault (WrongType key) (as_integer value)
  or_fault (Range key) (number_within least most number)

unfoldable pub required_integer : List ℕ → ℕ → ℕ → Members → Result ℕ ConfigFault
required_integer key least most t = do
  value ← required key t
  integer_in key least most value

-- an integer, or its default where the key is not there
abbrev pub integer_or : List ℕ → ℕ → ℕ → ℕ → Option Data → Result ℕ ConfigFault
integer_or key least most default None = Ok default
integer_or key least most default (Some value) = integer_in key least most value

unfoldable pub integer_at : List ℕ → ℕ → ℕ → ℕ → Members → Result ℕ ConfigFault
integer_at key least most default t = integer_or key least most default (get_member key t)

abbrev pub flag_or : List ℕ → Bool → Option Data → Result Bool ConfigFault
flag_or key default None = Ok default
flag_or key default (Some value) = or_fault (WrongType key) (as_bool value)

unfoldable pub flag_at : List ℕ → Bool → Members → Result Bool ConfigFault
flag_at key default t = flag_or key default (get_member key t)

unfoldable pub text_in : List ℕ → Data → Result (List ℕ) ConfigFault
text_in key value = or_fault (WrongType key) (as_str value)

unfoldable pub address_in : List ℕ → Data → Result AddressModel ConfigFault
address_in key value = do
  text ← text_in key value
  or_fault (BadAddress key) (spelled_address text)

unfoldable pub required_address : List ℕ → Members → Result AddressModel ConfigFault
required_address key t = do
  value ← required key t
  address_in key value

abbrev pub address_or_none : List ℕ → Option Data → Result (Option AddressModel) ConfigFault
address_or_none key None = Ok None
address_or_none key (Some value) = do
  address ← address_in key value
  Ok (Some address)

unfoldable pub address_at : List ℕ → Members → Result (Option AddressModel) ConfigFault
address_at key t = address_or_none key (get_member key t)

-- every item is a string
abbrev pub are_texts : Items → Bool
are_texts no_items = true
are_texts (item value others) = is_some (as_str value) && are_texts others

abbrev pub item_count : Items → ℕ
item_count no_items = 0
item_count (item value others) = suc (item_count others)

-- an address may stand in a list: it is one of these, where some are given
abbrev pub may_stand : Option (List AddressModel) → AddressModel → Bool
may_stand None a = true
may_stand (Some among) a = is_listed among a

-- an address that may stand there
unfoldable pub address_among : List ℕ → Option (List AddressModel) → Data → Result AddressModel ConfigFault
address_among key among value = do
  address ← address_in key value
  if may_stand among address then Ok address else Err (Range key)

-- an address for each item, from the left
abbrev pub addresses_in : List ℕ → Option (List AddressModel) → Items → Result (List AddressModel) ConfigFault
addresses_in key among no_items = Ok []
addresses_in key among (item value others) = do
  first ← address_among key among value
  rest ← addresses_in key among others
  Ok (first ∷ rest)

-- the items are strings, then they are 1 to 32, then each spells an address that may stand there
unfoldable pub listing_in : List ℕ → Option (List AddressModel) → Items → Result (List AddressModel) ConfigFault
listing_in key among items =
    if are_texts items
    then (if nat_le 1 (item_count items) && nat_le (item_count items) 32 then addresses_in key among items else Err (Range key))
    else Err (WrongType key)

unfoldable pub listing_of : List ℕ → Option (List AddressModel) → Data → Result (List AddressModel) ConfigFault
listing_of key among value = do
  items ← or_fault (WrongType key) (as_array value)
  listing_in key among items

unfoldable pub listing_at : List ℕ → Members → Result (List AddressModel) ConfigFault
listing_at key t = do
  value ← required key t
  listing_of key None value

-- the addresses that have the role, each of them listed: all that are listed, where the key is not there
abbrev pub role_or : List AddressModel → Option Data → Result (List AddressModel) ConfigFault
role_or listed None = Ok listed
role_or listed (Some value) = listing_of (codes "role") (Some listed) value

unfoldable pub role_at : List AddressModel → Members → Result (List AddressModel) ConfigFault
role_at listed t = role_or listed (get_member (codes "role") t)

-- a text for each item, from the left
abbrev pub texts_in : List ℕ → Items → Result (List (List ℕ)) ConfigFault
texts_in key no_items = Ok []
texts_in key (item value others) = do
  first ← text_in key value
  rest ← texts_in key others
  Ok (first ∷ rest)

-- the items are strings, then they are 1 to 8 names of types, each of which has so many shards: 1000 at most for all of them
unfoldable pub types_in : ℕ → Items → Result (List (List ℕ)) ConfigFault
types_in shards items = do
  names ← texts_in (codes "types") items
  if nat_le 1 (length names) && may_be_types shards names then Ok names else Err (Range (codes "types"))

unfoldable pub types_of : ℕ → Data → Result (List (List ℕ)) ConfigFault
types_of shards value = do
  items ← or_fault (WrongType (codes "types")) (as_array value)
  types_in shards items

-- the names of the types, none where the key is not there
abbrev pub types_or : ℕ → Option Data → Result (List (List ℕ)) ConfigFault
types_or shards None = Ok []
types_or shards (Some value) = types_of shards value

unfoldable pub types_at : ℕ → Members → Result (List (List ℕ)) ConfigFault
types_at shards t = types_or shards (get_member (codes "types") t)

-- a strategy that has no quorum; one that has a flag has it set
abbrev pub bare_strategy : List ℕ → Option Strategy
bare_strategy name =
    if pointwise nat_eq name (codes "keep-majority") then Some KeepMajority
    else if pointwise nat_eq name (codes "keep-oldest") then Some (KeepOldest true)
    else if pointwise nat_eq name (codes "down-all") then Some DownAll
    else None

-- the strategy with this flag, if it has one
abbrev pub with_flag : Bool → Strategy → Strategy
with_flag alone (StaticQuorum quorum) = StaticQuorum quorum
with_flag alone KeepMajority = KeepMajority
with_flag alone (KeepOldest _) = KeepOldest alone
with_flag alone DownAll = DownAll

-- a strategy without its flag: the quorum of a static quorum is required; that of another one is in its range where it is there,
-- and not used
unfoldable pub strategy_named : List ℕ → Members → Result Strategy ConfigFault
strategy_named name t =
    if pointwise nat_eq name (codes "static-quorum")
    then (required_integer (codes "quorum") 1 32 t >>= (λ quorum. Ok (StaticQuorum quorum)))
    else (or_fault (Range (codes "strategy")) (bare_strategy name) >>= (λ strategy. integer_at (codes "quorum") 1 32 1 t >>= (λ _. Ok strategy)))

unfoldable pub strategy_at : Members → Result Strategy ConfigFault
strategy_at t = do
  value ← required (codes "strategy") t
  name ← text_in (codes "strategy") value
  strategy ← strategy_named name t
  alone ← flag_at (codes "down-if-alone") true t
  Ok (with_flag alone strategy)

unfoldable pub process_at : Members → Result UniqueModel ConfigFault
process_at t = do
  address ← required_address (codes "self") t
  uid ← required_integer (codes "uid") 1 (2 ^ 63 - 1) t
  Ok (record { address = address; uid = uid })

unfoldable pub limits_at : Members → Result Limits ConfigFault
limits_at t = do
  margin ← integer_at (codes "margin") 1 1000000 20 t
  deadline ← integer_at (codes "deadline") 1 1000000 5 t
  stable ← integer_at (codes "stable") 1 1000000 20 t
  shards ← integer_at (codes "shards") 1 1000 default_shards t
  buffer ← integer_at (codes "buffer") 1 100000 default_buffer t
  threshold ← integer_at (codes "threshold") 1 1000 default_threshold t
  limit ← integer_at (codes "limit") 1 1000 default_limit t
  Ok (record { margin = margin; deadline = deadline; stable = stable; shards = shards; buffer = buffer; threshold = threshold; limit = limit })

unfoldable pub running_at : Members → Result Running ConfigFault
running_at t = do
  tick_ms ← integer_at (codes "tick-ms") 1 1000000 1000 t
  seed ← integer_at (codes "seed") 0 (2 ^ 63 - 1) 1 t
  found ← flag_at (codes "found") false t
  join ← address_at (codes "join") t
  weakly ← integer_at (codes "weakly") 0 1000000 0 t
  Ok (record { tick_ms = tick_ms; seed = seed; found = found; join = join; weakly = weakly })

-- each key by itself, in the order of the keys
unfoldable pub entries_at : Members → Result EntriesModel ConfigFault
entries_at t = do
  me ← process_at t
  listed ← listing_at (codes "listed") t
  strategy ← strategy_at t
  limits ← limits_at t
  running ← running_at t
  role ← role_at listed t
  types ← types_at limits.shards t
  Ok (record { me = me; listed = listed; strategy = strategy; limits = limits; running = running; role = role; types = types })

abbrev pub config_of : EntriesModel → Config
config_of e =
    record {
      me = e.me;
      settings = record {
        listed = e.listed;
        strategy = e.strategy;
        margin = e.limits.margin;
        deadline = e.limits.deadline;
        stable = e.limits.stable;
        shards = e.limits.shards;
        buffer = e.limits.buffer;
        threshold = e.limits.threshold;
        limit = e.limits.limit;
        weakly = e.running.weakly;
        role = e.role;
        types = e.types;
      };
      tick_ms = e.running.tick_ms;
      seed = e.running.seed;
      found = e.running.found;
      join = e.running.join;
    }

-- what is asked of all keys together
unfoldable pub agreed : EntriesModel → Result Config ConfigFault
agreed e =
    if all_different e.listed
    then (if all_different e.role
    then (if all_texts_differ e.types
    then (if is_listed e.listed e.me.address then Ok (config_of e) else Err (SelfUnlisted (codes "self")))
    else Err (Repeated (codes "types")))
    else Err (Repeated (codes "role")))
    else Err (Repeated (codes "listed"))

-- the configuration that the values of a document are, or the first fault
unfoldable pub configuration : Members → Result Config ConfigFault
configuration t = do
  _ ← known_keys t
  entries ← entries_at t
  agreed entries

-- the values of a document: its bytes are UTF-8, and a TOML document
unfoldable pub document : List ℕ → Result Members ConfigFault
document bytes = or_fault NotToml (if is_utf8 bytes then parse_document bytes else None)

-- the configuration that bytes are, or the first fault
unfoldable pub read : List ℕ → Result Config ConfigFault
read bytes = do
  t ← document bytes
  configuration t
