-- How a call's answer follows from the answers of the calls that it makes.
use Rattle.std.proofs.Common.{◌≡◌, ℕ, Bool, List, Result, Err, refl}
use Rattle.ak_field.specs.declared.fault.WireFault.{WireFault}
use Rattle.ak_field.specs.declared.fault.WireFault.TheVariants.{Short, Magic, Version, Kind, Count, Order, Range, Trailing, NoMemory}
use Rattle.ak_field.specs.Reading.{◌>>=◌, checked, Fails}

fails_so : {A : Type 0} (fault : WireFault) (r : Result A WireFault) → r ≡ Err fault → Fails fault r
fails_so Short r h = h
fails_so Magic r h = h
fails_so Version r h = h
fails_so Kind r h = h
fails_so Count r h = h
fails_so Order r h = h
fails_so Range r h = h
fails_so Trailing r h = h
fails_so (NoMemory _) r h = tt

-- a fault of the first step is that of all
pub fails_first : {A B : Type 0} (fault : WireFault) (r : Result A WireFault) (f : A → Result B WireFault) → Fails fault r → Fails fault (r >>= f)
fails_first Short r f h = rw h refl
fails_first Magic r f h = rw h refl
fails_first Version r f h = rw h refl
fails_first Kind r f h = rw h refl
fails_first Count r f h = rw h refl
fails_first Order r f h = rw h refl
fails_first Range r f h = rw h refl
fails_first Trailing r f h = rw h refl
fails_first (NoMemory _) r f h = tt

-- and of a field before its check
pub fails_before : {A : Type 0} (fault own : WireFault) (passes : A → Bool) (r : Result (A × List ℕ) WireFault) → Fails fault r → Fails fault (checked own passes r)
fails_before Short own passes r h = rw h refl
fails_before Magic own passes r h = rw h refl
fails_before Version own passes r h = rw h refl
fails_before Kind own passes r h = rw h refl
fails_before Count own passes r h = rw h refl
fails_before Order own passes r h = rw h refl
fails_before Range own passes r h = rw h refl
fails_before Trailing own passes r h = rw h refl
fails_before (NoMemory _) own passes r h = tt

-- a fault of a step that takes no memory
pub fails_exactly : {A B : Type 0} (fault : WireFault) (r : Result A WireFault) (f : A → Result B WireFault) → r ≡ Err fault → Fails fault (r >>= f)
fails_exactly fault r f h = fails_so fault (r >>= f) (rw h refl)

pub fails_exactly_before : {A : Type 0} (fault own : WireFault) (passes : A → Bool) (r : Result (A × List ℕ) WireFault) → r ≡ Err fault → Fails fault (checked own passes r)
fails_exactly_before fault own passes r h = fails_so fault (checked own passes r) (rw h refl)
