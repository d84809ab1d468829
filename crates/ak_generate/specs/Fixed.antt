-- The settings of every generated schedule (this project's choice).
use Rattle.std.specs.Prelude.{ℕ, List, [], ◌∷◌, decimal}
use Rattle.ak_address.specs.Unique.{AddressModel, UniqueModel}
use Rattle.ak_settings.specs.declared.settings.Strategy.TheVariants.{StaticQuorum}
use Rattle.ak_settings.specs.Settings.{SettingsModel}

-- the listed address of a number: port 1 of the host `n` (110) followed by the number in decimal
abbrev pub address : ℕ → AddressModel
address number = record { host = 110 ∷ decimal number; port = 1 }

-- a process at it
abbrev pub process : ℕ → ℕ → UniqueModel
process number uid = record { address = address number; uid = uid }

-- `n1:1` to `n5:1`
abbrev pub addresses : List AddressModel
addresses = address 1 ∷ address 2 ∷ address 3 ∷ address 4 ∷ address 5 ∷ []

abbrev pub fixed : SettingsModel
fixed = record {
  listed = addresses;
  strategy = StaticQuorum 3;
  margin = 6;
  deadline = 3;
  stable = 3;
  shards = 10;
  buffer = 4;
  threshold = 1;
  limit = 1;
  weakly = 0;
  role = addresses;
  types = [];
}
