-- What a node knows of one shard, as a value.
use Rattle.std.specs.Prelude.{◌≡◌, ℕ, ◌<◌, Bool, Option, Some, refl}
use Rattle.std.specs.Coded.{Coded, code_by, coded×, coded_ℕ, coded_bool, coded_option}
use Rattle.ak_address.specs.Unique.{UniqueModel, coded_unique}

-- the number with which the shard is hosted here, the mark (the greatest allocation number that was told), whether the
-- shard is held, and its home as far as it is known
pub record ShardSlot : Type 0 where
  pub hosted : Option ℕ
  pub mark : ℕ
  pub held : Bool
  pub home : Option UniqueModel

abbrev pub coded_slot : Coded ShardSlot
coded_slot =
    code_by (Option ℕ × (ℕ × (Bool × Option UniqueModel)))
    (coded× (coded_option coded_ℕ) (coded× coded_ℕ (coded× coded_bool (coded_option coded_unique))))
    (λ s. (s.hosted, (s.mark, (s.held, s.home))))
    (λ p. record { hosted = p.0; mark = p.1.0; held = p.1.1.0; home = p.1.1.1 })
    (λ _. refl)

-- a hosted shard's mark is its hosted number, which is positive
pub record IsSlot (slot : ShardSlot) : Type 0 where
  pub newest : (n : ℕ) → slot.hosted ≡ Some n → n ≡ slot.mark
  pub positive : (n : ℕ) → slot.hosted ≡ Some n → 0 < n
