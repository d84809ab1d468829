-- How a call's answer follows from the answers of the calls that it makes.
use Rattle.std.proofs.Common.{◌≡◌, ℕ, List, Result, Ok, Err}
use Rattle.ak_field.specs.declared.fault.WireFault.{WireFault}
use Rattle.ak_field.specs.Reading.{◌>>=◌, Fails}
use Rattle.ak_field.proofs.Steps as field
use Rattle.ak_wire.specs.ReadingDatagram.{made_at}

-- a fault of the first step is that of all
pub fails_first : {A B : Type 0} (fault : WireFault) (r : Result A WireFault) (f : A → Result B WireFault) → Fails fault r → Fails fault (r >>= f)
fails_first fault r f h = field.fails_first fault r f h

-- and a fault of a step that takes no memory
pub fails_exactly : {A B : Type 0} (fault : WireFault) (r : Result A WireFault) (f : A → Result B WireFault) → r ≡ Err fault → Fails fault (r >>= f)
fails_exactly fault r f h = field.fails_exactly fault r f h

-- and a fault of what something is made of
pub fails_made : {A B : Type 0} (fault : WireFault) (make : A → B) (r : Result (A × List ℕ) WireFault) → Fails fault r → Fails fault (made_at make r)
unfolding made_at
fails_made fault make r h = field.fails_first fault r (λ read. Ok (make read.0, read.1)) h
