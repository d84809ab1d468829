-- The header lines of a schedule, as far as they are read.
use Rattle.std.specs.Prelude.{◌≡◌, ◌↔◌, ℕ, ◌+◌, ◌<◌, ◌≤◌, Bool, true, false, IsTrue, List, [], ◌∷◌, length, Contains, Some, slice_get, Result, Ok, Err, refl}
use Rattle.std.specs.List.{AllZip}
use Rattle.std.specs.Coded.{Coded, code_by, coded×, coded_ℕ}
use Rattle.ak_address.specs.Unique.{AddressModel}
use Rattle.ak_address.specs.Spelling.{SpellsAddress}
use Rattle.ak_settings.specs.declared.settings.Strategy.TheVariants.{DownAll}
use Rattle.ak_schedule.specs.declared.draft.Extra.{Extra}
use Rattle.ak_schedule.specs.declared.draft.Header.{Header}
use Rattle.ak_schedule.specs.declared.fault.LineFault.{LineFault}
use Rattle.ak_schedule.specs.declared.fault.LineFault.TheVariants.{Malformed, BadHeader, NoMemory}
use Rattle.ak_settings.specs.Settings.{SettingsModel, IsListing, IsRole, AreTypes, IsStrategy, IsWithin, coded_settings}
use Rattle.ak_schedule.specs.Schedule.{headers, extras, NamesExtra, NamesList, SetsHeader, SetsExtraHeader}
use Rattle.ak_schedule.specs.Line.{words}

-- how many headers are read, the index of the first optional header that may still come, and the settings by then
pub record Drafted : Type 0 where
  pub read : ℕ
  pub extra : ℕ
  pub settings : SettingsModel

abbrev pub coded_draft : Coded Drafted
coded_draft = code_by (ℕ × (ℕ × SettingsModel)) (coded× coded_ℕ (coded× coded_ℕ coded_settings)) (λ d. (d.read, (d.extra, d.settings))) (λ p. record { read = p.0; extra = p.1.0; settings = p.1.1 }) (λ _. refl)

-- nothing is read
abbrev pub first_draft : Drafted
first_draft = record {
  read = 0;
  extra = 0;
  settings = record {
    listed = [];
    strategy = DownAll;
    margin = 1;
    deadline = 1;
    stable = 1;
    shards = 1;
    buffer = 1;
    threshold = 1;
    limit = 1;
    weakly = 0;
    role = [];
    types = [];
  };
}

-- each setting is in its range, the addresses once they are read
pub record IsDraft (d : Drafted) : Type 0 where
  pub count : d.read ≤ 9
  pub extra : d.extra ≤ length extras
  pub listed : 1 ≤ d.read → IsListing d.settings.listed
  pub strategy : IsStrategy d.settings.strategy
  pub margin : IsWithin 1000000 d.settings.margin
  pub deadline : IsWithin 1000000 d.settings.deadline
  pub stable : IsWithin 1000000 d.settings.stable
  pub shards : IsWithin 1000 d.settings.shards
  pub buffer : IsWithin 100000 d.settings.buffer
  pub threshold : IsWithin 1000 d.settings.threshold
  pub limit : IsWithin 1000 d.settings.limit
  pub weakly : d.settings.weakly ≤ 1000000
  pub role : 1 ≤ d.read → IsRole d.settings.listed d.settings.role
  pub types : AreTypes d.settings.shards d.settings.types

-- the line is the next header, and sets its setting
pub record ReadsHeader (line : List ℕ) (old new : Drafted) : Type 0 where
  pub which : Header
  pub next : slice_get headers old.read ≡ Some which
  pub sets : SetsHeader which line old.settings new.settings
  pub count : new.read ≡ old.read + 1
  pub same_extra : new.extra ≡ old.extra

-- lines are headers, read one after another
abbrev pub ReadsHeaders : List (List ℕ) → Drafted → Drafted → Type 0
ReadsHeaders [] old new = new ≡ old
ReadsHeaders (line ∷ rest) old new = (next : Drafted) × ReadsHeader line old next × ReadsHeaders rest next new

-- settings, all of whose nine headers are read
abbrev pub all_read : SettingsModel → Drafted
all_read s = record { read = 9; extra = 0; settings = s }

-- the line is an optional header that may still come, and sets its setting
pub record ReadsExtra (line : List ℕ) (old new : Drafted) : Type 0 where
  pub which : Extra
  pub index : ℕ
  pub next : slice_get extras index ≡ Some which
  pub later : old.extra ≤ index
  pub sets : SetsExtraHeader which line old.settings new.settings
  pub same_read : new.read ≡ old.read
  pub past : new.extra ≡ index + 1

-- lines are optional headers, read one after another
abbrev pub ReadsExtras : List (List ℕ) → Drafted → Drafted → Type 0
ReadsExtras [] old new = new ≡ old
ReadsExtras (line ∷ rest) old new = (next : Drafted) × ReadsExtra line old next × ReadsExtras rest next new

-- whether the line is an optional header; refused exactly where its first word is that of one, and it is none that may still come;
-- memory runs out at a role and at types alone, which hold addresses or names while they are read
abbrev pub ExtraAnswers : Result Bool LineFault → List ℕ → Drafted → Drafted → Type 0
ExtraAnswers (Ok true) line old new = ReadsExtra line old new
ExtraAnswers (Ok false) line old new = (new ≡ old) × (NamesExtra (words line) → ⊥)
ExtraAnswers (Err Malformed) line old new = ⊥
ExtraAnswers (Err BadHeader) line old new = (new ≡ old) × NamesExtra (words line) × ((next : Drafted) → ReadsExtra line old next → ⊥)
ExtraAnswers (Err (NoMemory _)) line old new = (new ≡ old) × NamesList (words line)

-- the next header, and whether it is the ninth; refused exactly where the line is not the next header; memory runs out at the
-- first header alone, which holds addresses while it is read
abbrev pub HeaderAnswers : Result Bool LineFault → List ℕ → Drafted → Drafted → Type 0
HeaderAnswers (Ok done) line old new = ReadsHeader line old new × (IsTrue done ↔ (new.read ≡ 9))
HeaderAnswers (Err Malformed) line old new = ⊥
HeaderAnswers (Err BadHeader) line old new = (new ≡ old) × ((next : Drafted) → ReadsHeader line old next → ⊥)
HeaderAnswers (Err (NoMemory _)) line old new = (new ≡ old) × (old.read ≡ 0)

-- the same before the header is counted
pub record SetsNext (line : List ℕ) (old new : Drafted) : Type 0 where
  pub which : Header
  pub next : slice_get headers old.read ≡ Some which
  pub sets : SetsHeader which line old.settings new.settings
  pub count : new.read ≡ old.read
  pub same_extra : new.extra ≡ old.extra

abbrev pub NextAnswers : Result (Unit {0}) LineFault → List ℕ → Drafted → Drafted → Type 0
NextAnswers (Ok _) line old new = SetsNext line old new
NextAnswers (Err fault) line old new = HeaderAnswers (Err fault) line old new

-- a header's value is refused exactly where none is spelled
abbrev pub RefusesValue : {T : Type 0} → (T → Type 0) → LineFault → Type 0
RefusesValue Spells Malformed = ⊥
RefusesValue {T} Spells BadHeader = (value : T) → Spells value → ⊥
RefusesValue Spells (NoMemory _) = Unit {0}

-- the same where no memory is taken
abbrev pub RefusesHeader : {T : Type 0} → (T → Type 0) → LineFault → Type 0
RefusesHeader Spells Malformed = ⊥
RefusesHeader {T} Spells BadHeader = (value : T) → Spells value → ⊥
RefusesHeader Spells (NoMemory _) = ⊥

-- the words spell these addresses, of which there are 1 to 32 different ones
abbrev pub SpellsAddresses : List (List ℕ) → List AddressModel → Type 0
SpellsAddresses ws listed = AllZip SpellsAddress ws listed × IsListing listed

-- one more address
pub record MayFollow (listed : List AddressModel) (a : AddressModel) : Type 0 where
  pub room : length listed < 32
  pub other : Contains listed a → ⊥

-- the word spells one more address
abbrev pub SpellsNext : List ℕ → List AddressModel → AddressModel → Type 0
SpellsNext word listed a = SpellsAddress word a × MayFollow listed a
