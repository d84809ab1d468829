-- What the answers of a link say of what was sent and of what comes. This project's choice.
use Rattle.std.specs.Prelude.{◌≡◌, ℕ, ◌+◌, ◌≤◌, ◌⊎◌, min, List, [], ◌∷◌, ◌++◌, length, take, Option, Some, None, IfSome, ⊤}
use Rattle.ak_address.specs.Unique.{AddressModel}
use Rattle.ak_outside.specs.declared.link.Taken.{Taken}
use Rattle.ak_outside.specs.declared.link.Bound.{Bound}
use Rattle.ak_outside.specs.declared.link.Bound.TheVariants as bound
use Rattle.ak_outside.specs.declared.link.Sent.{Sent}
use Rattle.ak_outside.specs.declared.link.Sent.TheVariants as sent
use Rattle.ak_outside.specs.declared.link.Heard.{Heard}
use Rattle.ak_outside.specs.declared.link.Heard.TheVariants as heard
use Rattle.ak_outside.specs.Outside.{Rose}

-- how many sends were asked, and the packets that were taken, each with the number of its send
pub record Sends : Type 0 where
  pub asked : ℕ
  pub taken : List Taken

-- a failed bind has its cause, and another counts no fault
abbrev pub BindCause : ℕ → ℕ → Bound → Type 0
BindCause old new bound.Ready = new ≡ old
BindCause old new bound.Failed = Rose old new

-- a failed send has its cause, and another counts no loss
abbrev pub SendCause : ℕ → ℕ → Sent → Type 0
SendCause old new sent.Sent = new ≡ old
SendCause old new sent.Failed = Rose old new

-- a failed receive has its cause, and another counts no fault
abbrev pub HearCause : ℕ → ℕ → Heard → Type 0
HearCause old new (heard.Packet n) = new ≡ old
HearCause old new heard.Quiet = new ≡ old
HearCause old new heard.Failed = Rose old new

-- where it is known what the last bind asked for, a bind that is ready asked for this, and a failed one changes nothing
abbrev pub Binds : Option (Option AddressModel) → Option (Option AddressModel) → Option AddressModel → Bound → Type 0
Binds None new at answer = new ≡ None
Binds (Some old) new at bound.Ready = new ≡ Some at
Binds (Some old) new at bound.Failed = new ≡ Some old

-- one send more was asked, and where it did not fail its packet was taken
abbrev pub sends_after : Sends → AddressModel → List ℕ → Sent → Sends
sends_after old to bytes sent.Sent = record { asked = old.asked + 1; taken = old.taken ++ (record { number = old.asked + 1; to = to; bytes = bytes }) ∷ [] }
sends_after old to bytes sent.Failed = record { asked = old.asked + 1; taken = old.taken }

-- where the sends are known after the call, they were known before it
abbrev pub TakesPacket : Option Sends → Option Sends → AddressModel → List ℕ → Sent → Type 0
TakesPacket old new to bytes answer = IfSome new (λ after. (before : Sends) × (old ≡ Some before) × (after ≡ sends_after before to bytes answer))

-- a packet lies in the buffer
abbrev pub FitsRoom : Heard → List ℕ → Type 0
FitsRoom (heard.Packet n) buffer = n ≤ length buffer
FitsRoom heard.Quiet buffer = ⊤
FitsRoom heard.Failed buffer = ⊤

-- the next packet, cut to the buffer; or a quiet, or nothing, comes next; a failed receive leaves what comes
abbrev pub HearsNext : List (Option (List ℕ)) → List (Option (List ℕ)) → Heard → List ℕ → Type 0
HearsNext old new (heard.Packet n) buffer =
    (bytes : List ℕ) × (old ≡ Some bytes ∷ new) × (n ≡ min (length bytes) (length buffer)) × (take n buffer ≡ take n bytes)
HearsNext old new heard.Quiet buffer = (old ≡ None ∷ new) ⊎ ((old ≡ []) × (new ≡ []))
HearsNext old new heard.Failed buffer = new ≡ old

abbrev pub Hears : Option (List (Option (List ℕ))) → Option (List (Option (List ℕ))) → Heard → List ℕ → Type 0
Hears old new answer buffer = IfSome old (λ coming. (left : List (Option (List ℕ))) × (new ≡ Some left) × HearsNext coming left answer buffer)
