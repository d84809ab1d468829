-- What is sent over a link, and what is received (this project's choice).
use Rattle.std.specs.Prelude.{◌≡◌, ℕ, ◌⊎◌, List, [], ◌∷◌, take, Option, Some, None, IfSome, ⊤}
use Rattle.ak_wire.specs.Datagram.{Spells}
use Rattle.ak_wire.specs.Laws.{FirstFault}
use Rattle.ak_outside.specs.Outside.{Rose}
use Rattle.ak_link.specs.declared.received.Got.{Got}
use Rattle.ak_link.specs.declared.received.Got.TheVariants.{Envelope as GotEnvelope, Bad, Quiet, Failed, NoMemory}

-- of the bytes of a packet: the envelope that they spell, or the number of their first fault; memory may have run out
abbrev pub GotOf : List ℕ → Got → Type 0
GotOf bytes (GotEnvelope envelope) = Spells bytes envelope
GotOf bytes (Bad number) = FirstFault bytes number
GotOf bytes Quiet = ⊥
GotOf bytes Failed = ⊥
GotOf bytes (NoMemory _) = ⊤

-- what comes next is a packet, and this is got of as much of it as the buffer has room for; or a quiet, or nothing, comes next
abbrev pub GotNext : List (Option (List ℕ)) → List (Option (List ℕ)) → ℕ → Got → Type 0
GotNext old new room (GotEnvelope envelope) = (bytes : List ℕ) × (old ≡ Some bytes ∷ new) × Spells (take room bytes) envelope
GotNext old new room (Bad number) = (bytes : List ℕ) × (old ≡ Some bytes ∷ new) × FirstFault (take room bytes) number
GotNext old new room Quiet = (old ≡ None ∷ new) ⊎ ((old ≡ []) × (new ≡ []))
GotNext old new room Failed = new ≡ old
GotNext old new room (NoMemory _) = (bytes : List ℕ) × (old ≡ Some bytes ∷ new)

abbrev pub Receives : Option (List (Option (List ℕ))) → Option (List (Option (List ℕ))) → ℕ → Got → Type 0
Receives old new room answer = IfSome old (λ coming. (left : List (Option (List ℕ))) × (new ≡ Some left) × GotNext coming left room answer)

-- a failed receive has its cause, and another counts no fault
abbrev pub GotCause : ℕ → ℕ → Got → Type 0
GotCause old new (GotEnvelope envelope) = new ≡ old
GotCause old new (Bad number) = new ≡ old
GotCause old new Quiet = new ≡ old
GotCause old new Failed = Rose old new
GotCause old new (NoMemory _) = new ≡ old

-- whether or not it is known what comes: some bytes spell the envelope, or have this first fault
abbrev pub GotSome : Got → Type 0
GotSome (GotEnvelope envelope) = (bytes : List ℕ) × Spells bytes envelope
GotSome (Bad number) = (bytes : List ℕ) × FirstFault bytes number
GotSome Quiet = ⊤
GotSome Failed = ⊤
GotSome (NoMemory _) = ⊤
