-- How a call's answer follows from the answers of the calls that it makes.
use Rattle.std.proofs.Common.{Result, refl}
use Rattle.ak_config.specs.declared.fault.ConfigFault.{ConfigFault}
use Rattle.ak_config.specs.declared.fault.ConfigFault.TheVariants.{NotToml, Missing, Unknown, WrongType, Range, BadAddress, SelfUnlisted, Repeated, NoMemory}
use Rattle.ak_config.specs.Configuration.{◌>>=◌}
use Rattle.ak_config.specs.ConfigContracts.{Fails}

-- a fault of the first step is that of all
pub fails_first : {A B : Type 0} (fault : ConfigFault) (r : Result A ConfigFault) (f : A → Result B ConfigFault) → Fails fault r → Fails fault (r >>= f)
fails_first NotToml r f h = rw h refl
fails_first (Missing key) r f h = rw h refl
fails_first (Unknown key) r f h = rw h refl
fails_first (WrongType key) r f h = rw h refl
fails_first (Range key) r f h = rw h refl
fails_first (BadAddress key) r f h = rw h refl
fails_first (SelfUnlisted key) r f h = rw h refl
fails_first (Repeated key) r f h = rw h refl
fails_first (NoMemory _) r f h = tt
