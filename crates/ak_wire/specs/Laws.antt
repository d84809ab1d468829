-- What it means that bytes are a datagram or have a first fault.
use Rattle.std.specs.Prelude.{◌≡◌, ◌⊎◌, ℕ, ◌≤◌, List, Some}
use Rattle.ak_field.specs.Reading.{first_fault}
use Rattle.ak_wire.specs.declared.envelope.Envelope.{Envelope}
use Rattle.ak_wire.specs.Datagram.{Spells}
use Rattle.ak_wire.specs.ReadingDatagram.{read}

-- the number of the first fault that reading the bytes meets
abbrev pub FirstFault : List ℕ → ℕ → Type 0
FirstFault bytes number = first_fault (read bytes) ≡ Some number

-- one of the two, of which there is one alone
pub record IsDecided (bytes : List ℕ) : Type 0 where
  pub either : ((e : Envelope) × Spells bytes e) ⊎ ((number : ℕ) × FirstFault bytes number)
  pub never_both : (e : Envelope) (number : ℕ) → Spells bytes e → FirstFault bytes number → ⊥
  pub one_envelope : (d e : Envelope) → Spells bytes d → Spells bytes e → d ≡ e
  pub one_fault : (m n : ℕ) → FirstFault bytes m → FirstFault bytes n → m ≡ n
  pub of_eight : (number : ℕ) → FirstFault bytes number → (1 ≤ number) × (number ≤ 8)
