-- The grammar of a recorded schedule: nine header lines and then events, one a line (this project's format).
use Rattle.std.specs.Prelude.{◌≡◌, ℕ, ◌-◌, ◌^◌, ◌<◌, ◌≤◌, ◌⊎◌, Bool, true, false, List, [], ◌∷◌, ◌++◌, length, codes}
use Rattle.std.specs.List.{AllZip}
use Rattle.ak_field.specs.Ranges.{IsEntity}
use Rattle.std.specs.Fmt.{decimal}
use Rattle.ak_address.specs.Unique.{AddressModel, IsAddress, IsUnique}
use Rattle.ak_address.specs.Spelling.{IsNumber, SpellsAddress, SpellsUnique, address_text, unique_text}
use Rattle.ak_settings.specs.declared.settings.Strategy.{Strategy}
use Rattle.ak_settings.specs.declared.settings.Strategy.TheVariants.{StaticQuorum, KeepMajority, KeepOldest, DownAll}
use Rattle.ak_schedule.specs.declared.event.Event.{Event}
use Rattle.ak_schedule.specs.declared.event.Event.TheVariants.{Start, Found, Join, Tick, Deliver, Leave, Down, Offer, Stop}
use Rattle.ak_schedule.specs.declared.draft.Extra as extra
use Rattle.ak_schedule.specs.declared.draft.Header as header
use Rattle.ak_schedule.specs.Line.{words, most_bytes}
use Rattle.ak_settings.specs.Settings.{SettingsModel, IsListing, IsRole, AreTypes}

-- a word is a number from least to most
pub record SpellsNumber (word : List ℕ) (least most n : ℕ) : Type 0 where
  pub number : IsNumber word n
  pub from : least ≤ n
  pub to : n ≤ most

-- the name of a setting and its number from 1 on
abbrev pub SpellsSetting : List ℕ → ℕ → List (List ℕ) → ℕ → Type 0
SpellsSetting name most ws n = (word : List ℕ) × (ws ≡ name ∷ word ∷ []) × SpellsNumber word 1 most n

-- a flag
abbrev pub switch_word : Bool → List ℕ
switch_word true = codes "on"
switch_word false = codes "off"

abbrev pub SpellsStrategy : List (List ℕ) → Strategy → Type 0
SpellsStrategy ws (StaticQuorum quorum) =
    (word : List ℕ) × (ws ≡ codes "strategy" ∷ codes "static-quorum" ∷ word ∷ []) × SpellsNumber word 1 32 quorum
SpellsStrategy ws KeepMajority = ws ≡ codes "strategy" ∷ codes "keep-majority" ∷ []
SpellsStrategy ws (KeepOldest alone) = ws ≡ codes "strategy" ∷ codes "keep-oldest" ∷ switch_word alone ∷ []
SpellsStrategy ws DownAll = ws ≡ codes "strategy" ∷ codes "down-all" ∷ []

abbrev pub SpellsListing : List (List ℕ) → List AddressModel → Type 0
SpellsListing ws listed =
    (names : List (List ℕ)) × (ws ≡ codes "listed" ∷ names) × AllZip SpellsAddress names listed × IsListing listed

-- a header line with these words gives the setting its value, and leaves the others; each address that is listed has the role, and
-- there are no types yet that have shards
abbrev pub Sets : header.Header → List (List ℕ) → SettingsModel → SettingsModel → Type 0
Sets header.TheVariants.Listed ws old new =
    (listed : List AddressModel) × SpellsListing ws listed × (new ≡ record old { listed = listed; role = listed })
Sets header.TheVariants.Strategy ws old new =
    (strategy : Strategy) × SpellsStrategy ws strategy × (new ≡ record old { strategy = strategy })
Sets header.TheVariants.Margin ws old new = (n : ℕ) × SpellsSetting (codes "margin") 1000000 ws n × (new ≡ record old { margin = n })
Sets header.TheVariants.Deadline ws old new = (n : ℕ) × SpellsSetting (codes "deadline") 1000000 ws n × (new ≡ record old { deadline = n })
Sets header.TheVariants.Stable ws old new = (n : ℕ) × SpellsSetting (codes "stable") 1000000 ws n × (new ≡ record old { stable = n })
Sets header.TheVariants.Shards ws old new = (n : ℕ) × SpellsSetting (codes "shards") 1000 ws n × (new ≡ record old { shards = n; types = [] })
Sets header.TheVariants.Buffer ws old new = (n : ℕ) × SpellsSetting (codes "buffer") 100000 ws n × (new ≡ record old { buffer = n })
Sets header.TheVariants.Threshold ws old new = (n : ℕ) × SpellsSetting (codes "threshold") 1000 ws n × (new ≡ record old { threshold = n })
Sets header.TheVariants.Limit ws old new = (n : ℕ) × SpellsSetting (codes "limit") 1000 ws n × (new ≡ record old { limit = n })

-- the name of a setting and its number from 0 on
abbrev pub SpellsOption : List ℕ → ℕ → List (List ℕ) → ℕ → Type 0
SpellsOption name most ws n = (word : List ℕ) × (ws ≡ name ∷ word ∷ []) × SpellsNumber word 0 most n

-- the first word of an optional header
abbrev pub extra_name : extra.Extra → List ℕ
extra_name extra.TheVariants.Weakly = codes "weakly"
extra_name extra.TheVariants.Role = codes "role"
extra_name extra.TheVariants.Types = codes "types"

-- a line with these words begins with the word of an optional header
abbrev pub NamesExtra : List (List ℕ) → Type 0
NamesExtra ws = (which : extra.Extra) × (rest : List (List ℕ)) × (ws ≡ extra_name which ∷ rest)

-- a line with these words begins with the word of an optional header that lists addresses or names
abbrev pub NamesList : List (List ℕ) → Type 0
NamesList ws = (rest : List (List ℕ)) × ((ws ≡ extra_name extra.TheVariants.Role ∷ rest) ⊎ (ws ≡ extra_name extra.TheVariants.Types ∷ rest))

-- some of the listed addresses
abbrev pub SpellsRole : List (List ℕ) → List AddressModel → List AddressModel → Type 0
SpellsRole ws listed role = (names : List (List ℕ)) × (ws ≡ codes "role" ∷ names) × AllZip SpellsAddress names role × IsRole listed role

-- 1 to 8 different names of types, each of which has so many shards
abbrev pub SpellsTypes : List (List ℕ) → ℕ → List (List ℕ) → Type 0
SpellsTypes ws shards types = (ws ≡ codes "types" ∷ types) × (1 ≤ length types) × AreTypes shards types

-- an optional header line with these words gives the setting its value, and leaves the others
abbrev pub SetsExtra : extra.Extra → List (List ℕ) → SettingsModel → SettingsModel → Type 0
SetsExtra extra.TheVariants.Weakly ws old new = (n : ℕ) × SpellsOption (codes "weakly") 1000000 ws n × (new ≡ record old { weakly = n })
SetsExtra extra.TheVariants.Role ws old new = (role : List AddressModel) × SpellsRole ws old.listed role × (new ≡ record old { role = role })
SetsExtra extra.TheVariants.Types ws old new = (types : List (List ℕ)) × SpellsTypes ws old.shards types × (new ≡ record old { types = types })

-- the optional headers, in their order
abbrev pub extras : List extra.Extra
extras = extra.TheVariants.Weakly ∷ extra.TheVariants.Role ∷ extra.TheVariants.Types ∷ []

-- the header that comes after so many
abbrev pub headers : List header.Header
headers =
    header.TheVariants.Listed ∷ header.TheVariants.Strategy ∷ header.TheVariants.Margin ∷ header.TheVariants.Deadline ∷ header.TheVariants.Stable
    ∷ header.TheVariants.Shards ∷ header.TheVariants.Buffer ∷ header.TheVariants.Threshold ∷ header.TheVariants.Limit ∷ []

-- a header line with these words spells the value that the settings have
abbrev pub SpellsValue : header.Header → List (List ℕ) → SettingsModel → Type 0
SpellsValue header.TheVariants.Listed ws s = SpellsListing ws s.listed
SpellsValue header.TheVariants.Strategy ws s = SpellsStrategy ws s.strategy
SpellsValue header.TheVariants.Margin ws s = SpellsSetting (codes "margin") 1000000 ws s.margin
SpellsValue header.TheVariants.Deadline ws s = SpellsSetting (codes "deadline") 1000000 ws s.deadline
SpellsValue header.TheVariants.Stable ws s = SpellsSetting (codes "stable") 1000000 ws s.stable
SpellsValue header.TheVariants.Shards ws s = SpellsSetting (codes "shards") 1000 ws s.shards
SpellsValue header.TheVariants.Buffer ws s = SpellsSetting (codes "buffer") 100000 ws s.buffer
SpellsValue header.TheVariants.Threshold ws s = SpellsSetting (codes "threshold") 1000 ws s.threshold
SpellsValue header.TheVariants.Limit ws s = SpellsSetting (codes "limit") 1000 ws s.limit

-- what is so where the optional headers do not say another thing
pub record SaysNoMore (s : SettingsModel) : Type 0 where
  pub weakly : s.weakly ≡ 0
  pub role : s.role ≡ s.listed
  pub types : s.types ≡ []

-- nine header lines, none of them too long, spell these settings, a line for each in the order of the headers
abbrev pub SpellsSettings : List (List ℕ) → SettingsModel → Type 0
SpellsSettings headings s = AllZip (λ which line. (length line ≤ most_bytes) × SpellsValue which (words line) s) headers headings × SaysNoMore s

-- the words of an event line
abbrev pub SpellsWords : List (List ℕ) → Event → Type 0
SpellsWords ws (Start u) = (a : List ℕ) × (ws ≡ codes "start" ∷ a ∷ []) × SpellsUnique a u
SpellsWords ws (Found u) = (a : List ℕ) × (ws ≡ codes "found" ∷ a ∷ []) × SpellsUnique a u
SpellsWords ws (Join u target) = (a : List ℕ) × (b : List ℕ) × (ws ≡ codes "join" ∷ a ∷ b ∷ []) × SpellsUnique a u × SpellsAddress b target
SpellsWords ws (Tick u word) = (a : List ℕ) × (b : List ℕ) × (ws ≡ codes "tick" ∷ a ∷ b ∷ []) × SpellsUnique a u × SpellsNumber b 0 (2 ^ 32 - 1) word
SpellsWords ws (Deliver packet) = (a : List ℕ) × (ws ≡ codes "deliver" ∷ a ∷ []) × SpellsNumber a 0 (2 ^ 63 - 1) packet
SpellsWords ws (Leave u who) = (a : List ℕ) × (b : List ℕ) × (ws ≡ codes "leave" ∷ a ∷ b ∷ []) × SpellsUnique a u × SpellsUnique b who
SpellsWords ws (Down u who) = (a : List ℕ) × (b : List ℕ) × (ws ≡ codes "down" ∷ a ∷ b ∷ []) × SpellsUnique a u × SpellsUnique b who
SpellsWords ws (Offer u entity payload) =
    (a : List ℕ) × (b : List ℕ) × (ws ≡ codes "offer" ∷ a ∷ entity ∷ b ∷ []) × SpellsUnique a u × IsEntity entity × SpellsNumber b 0 (2 ^ 63 - 1) payload
SpellsWords ws (Stop u) = (a : List ℕ) × (ws ≡ codes "stop" ∷ a ∷ []) × SpellsUnique a u

-- an event line, which is not too long
pub record SpellsEvent (line : List ℕ) (event : Event) : Type 0 where
  pub short : length line ≤ most_bytes
  pub words : SpellsWords (words line) event

-- a header line, which is not too long
pub record SetsHeader (which : header.Header) (line : List ℕ) (old new : SettingsModel) : Type 0 where
  pub short : length line ≤ most_bytes
  pub words : Sets which (words line) old new

-- an optional header line, which is not too long
pub record SetsExtraHeader (which : extra.Extra) (line : List ℕ) (old new : SettingsModel) : Type 0 where
  pub short : length line ≤ most_bytes
  pub words : SetsExtra which (words line) old new

-- some event line spells the event
abbrev pub IsSpelled : Event → Type 0
IsSpelled event = (line : List ℕ) × SpellsEvent line event

-- its parts are in their ranges
abbrev pub IsEvent : Event → Type 0
IsEvent (Start u) = IsUnique u
IsEvent (Found u) = IsUnique u
IsEvent (Join u target) = IsUnique u × IsAddress target
IsEvent (Tick u word) = IsUnique u × (word < 2 ^ 32)
IsEvent (Deliver packet) = packet < 2 ^ 63
IsEvent (Leave u who) = IsUnique u × IsUnique who
IsEvent (Down u who) = IsUnique u × IsUnique who
IsEvent (Offer u entity payload) = IsUnique u × IsEntity entity × (payload < 2 ^ 63)
IsEvent (Stop u) = IsUnique u

-- the canonical spelling: one space between words, no leading zeros
abbrev pub event_text : Event → List ℕ
event_text (Start u) = codes "start " ++ unique_text u
event_text (Found u) = codes "found " ++ unique_text u
event_text (Join u target) = codes "join " ++ unique_text u ++ codes " " ++ address_text target
event_text (Tick u word) = codes "tick " ++ unique_text u ++ codes " " ++ decimal word
event_text (Deliver packet) = codes "deliver " ++ decimal packet
event_text (Leave u who) = codes "leave " ++ unique_text u ++ codes " " ++ unique_text who
event_text (Down u who) = codes "down " ++ unique_text u ++ codes " " ++ unique_text who
event_text (Offer u entity payload) = codes "offer " ++ unique_text u ++ codes " " ++ entity ++ codes " " ++ decimal payload
event_text (Stop u) = codes "stop " ++ unique_text u
