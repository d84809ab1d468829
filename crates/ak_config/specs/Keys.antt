-- What it means that a key is the one that a document is refused for.
use Rattle.std.specs.Prelude.{◌≡◌, ◌≢◌, ℕ, false, List, ◌⊎◌}
use Rattle.std.specs.Ordering.{nat_cmp}
use Rattle.std.specs.Cmp.Lexicographic.{slice_cmp}
use Rattle.std.specs.declared.cmp.Ordering.TheVariants.{Greater}
use Rattle.toml.specs.Data.{Members, no_members, member}
use Rattle.ak_config.specs.Configuration.{is_key}

-- the document has the key
abbrev pub HasKey : Members → List ℕ → Type 0
HasKey no_members k = ⊥
HasKey (member l value others) k = (l ≡ k) ⊎ HasKey others k

-- it has the key, which none may have, and no lesser one
pub record IsLeastUnknown (t : Members) (k : List ℕ) : Type 0 where
  pub stands : HasKey t k
  pub unknown : is_key k ≡ false
  pub least : (l : List ℕ) → HasKey t l → is_key l ≡ false → slice_cmp nat_cmp k l ≢ Greater
