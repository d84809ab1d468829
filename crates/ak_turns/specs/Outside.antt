-- What the outside of a node shows of itself at one time.
use Rattle.std.specs.Prelude.{◌≡◌, ℕ, ◌≤◌, ◌⊎◌, List, Option, Some, IfSome}
use Rattle.ak_address.specs.Unique.{AddressModel}
use Rattle.ak_outside.specs.declared.link.Sent.{Sent}
use Rattle.ak_outside.specs.Outside.{Rose}
use Rattle.ak_outside.specs.Link.{Sends}
use Rattle.ak_wire.specs.declared.envelope.Envelope.{Envelope}
use Rattle.ak_turns.specs.Steps.{AllSent, sends_of}

-- what a sink has written, and its faults
pub record Output : Type 0 where
  pub written : Option (List ℕ)
  pub faults : ℕ

-- what a link has bound, sent and lost, and what comes to it
pub record Wire : Type 0 where
  pub bound : Option (Option AddressModel)
  pub sends : Option Sends
  pub losses : ℕ
  pub coming : Option (List (Option (List ℕ)))

abbrev pub sink : Option (List ℕ) → ℕ → Output
sink written faults = record { written = written; faults = faults }

abbrev pub wire : Option (Option AddressModel) → Option Sends → ℕ → Option (List (Option (List ℕ))) → Wire
wire bound sends losses coming = record { bound = bound; sends = sends; losses = losses; coming = coming }

-- where the sends are known afterwards, these packets were sent and answered so
abbrev pub MakesSends : Option Sends → Option Sends → List Envelope → List Sent → Type 0
MakesSends old new packets answers = IfSome new (λ after. (before : Sends) × (old ≡ Some before) × (after ≡ sends_of before packets answers))

-- no send was lost and the count of losses stayed; or it rose
abbrev pub CountsLosses : ℕ → ℕ → List Sent → Type 0
CountsLosses old new answers = (old ≤ new) × ((AllSent answers × (new ≡ old)) ⊎ Rose old new)

-- all that a link does here is to send these packets, answered so
pub record SendsPackets (old new : Wire) (packets : List Envelope) (answers : List Sent) : Type 0 where
  pub sends : MakesSends old.sends new.sends packets answers
  pub losses : CountsLosses old.losses new.losses answers
  pub bound : new.bound ≡ old.bound
  pub coming : new.coming ≡ old.coming

-- nothing was sent and nothing bound
pub record SendsNothing (old new : Wire) : Type 0 where
  pub sends : new.sends ≡ old.sends
  pub losses : new.losses ≡ old.losses
  pub bound : new.bound ≡ old.bound
