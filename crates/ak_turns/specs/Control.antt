-- What asks a node one thing (this project's choice).
use Rattle.std.specs.Prelude.{◌≡◌, ℕ, ◌⊎◌, List, [], ◌∷◌, ◌++◌, codes, None, Result, Ok, Err}
use Rattle.std.specs.declared.alloc.AllocError.{AllocError}
use Rattle.ak_address.specs.Unique.{AddressModel, UniqueModel}
use Rattle.ak_options.specs.declared.command.Request.{Request}
use Rattle.ak_options.specs.declared.command.Request.TheVariants.{Leave, Down, Offer}
use Rattle.ak_outside.specs.declared.link.Bound as bound
use Rattle.ak_outside.specs.declared.link.Sent.{Sent}
use Rattle.ak_outside.specs.declared.link.Sent as answer
use Rattle.ak_outside.specs.declared.status.Status.{Status}
use Rattle.ak_outside.specs.declared.status.Status.TheVariants as status
use Rattle.ak_outside.specs.Link.{Binds}
use Rattle.ak_outside.specs.Outside.{Rose}
use Rattle.ak_wire.specs.declared.envelope.Envelope.{Envelope}
use Rattle.ak_wire.specs.declared.envelope.Message.{Message}
use Rattle.ak_wire.specs.declared.envelope.Message as message
use Rattle.ak_outside.specs.Endings.{Written, memory_line}
use Rattle.ak_turns.specs.Endings.{link_line}
use Rattle.ak_turns.specs.Outside.{Output, Wire, MakesSends, CountsLosses}

-- the process that asks
abbrev pub control_process : UniqueModel
control_process = record { address = record { host = codes "ctl"; port = 1 }; uid = 1 }

abbrev pub message_of : Request → Message
message_of (Leave who) = message.TheVariants.Leave who
message_of (Down who) = message.TheVariants.Down who
message_of (Offer entity payload) = message.TheVariants.Offer entity payload

-- the one packet, for whichever process is at the address
abbrev pub control_packet : AddressModel → Request → Envelope
control_packet to say = record { from = control_process; to = to; uid = 0; message = message_of say }

abbrev pub answer_line : Sent → List ℕ
answer_line answer.TheVariants.Sent = codes "sent" ++ 10 ∷ []
answer_line answer.TheVariants.Failed = codes "lost" ++ 10 ∷ []

abbrev pub WritesLine : Status → List ℕ → Status → Output → Output → Type 0
WritesLine ends line answer o0 o1 = Written ends line answer o0.faults o1.faults o0.written o1.written

-- the packet was sent, and the answer was written
pub record SendsControl (result : Status) (to : AddressModel) (say : Request) (o0 o1 : Output) (w0 w1 : Wire) : Type 0 where
  pub answered : Sent
  pub line : WritesLine status.Done (answer_line answered) result o0 o1
  pub sends : MakesSends w0.sends w1.sends (control_packet to say ∷ []) (answered ∷ [])
  pub losses : CountsLosses w0.losses w1.losses (answered ∷ [])

-- nothing was sent, and this line was written
pub record SaysAlone (result ends : Status) (line : List ℕ) (o0 o1 : Output) (w0 w1 : Wire) : Type 0 where
  pub writes : WritesLine ends line result o0 o1
  pub sends : w1.sends ≡ w0.sends
  pub losses : w1.losses ≡ w0.losses

-- the packet was sent, or memory ran out before that
abbrev pub Asks : Result Sent AllocError → AddressModel → Request → Wire → Wire → Type 0
Asks (Ok answered) to say w0 w1 =
    MakesSends w0.sends w1.sends (control_packet to say ∷ []) (answered ∷ []) × CountsLosses w0.losses w1.losses (answered ∷ []) × (w1.bound ≡ w0.bound)
Asks (Err _) to say w0 w1 = (w1.sends ≡ w0.sends) × (w1.losses ≡ w0.losses) × (w1.bound ≡ w0.bound)

abbrev pub AsksAndAnswers : Status → AddressModel → Request → Output → Output → Wire → Wire → Type 0
AsksAndAnswers result to say o0 o1 w0 w1 = (w1.bound ≡ w0.bound) × (SendsControl result to say o0 o1 w0 w1 ⊎ SaysAlone result status.Memory memory_line o0 o1 w0 w1)

-- Any free port was taken and one send asked, or memory ran out before it; or no port could be had.
abbrev pub Controls : Status → AddressModel → Request → Output → Output → Wire → Wire → Type 0
Controls result to say o0 o1 w0 w1 =
    (Binds w0.bound w1.bound None bound.TheVariants.Ready × SendsControl result to say o0 o1 w0 w1)
    ⊎ (Binds w0.bound w1.bound None bound.TheVariants.Ready × SaysAlone result status.Memory memory_line o0 o1 w0 w1)
    ⊎ (Binds w0.bound w1.bound None bound.TheVariants.Failed × SaysAlone result status.Link link_line o0 o1 w0 w1)

-- each status by the counts of faults of the sink and of the link: `Link` where the bind failed, `Write` where the sink did
abbrev pub ControlCause : Status → ℕ → ℕ → ℕ → ℕ → Type 0
ControlCause status.Done w0 w1 l0 l1 = (w1 ≡ w0) × (l1 ≡ l0)
ControlCause status.Memory w0 w1 l0 l1 = (w1 ≡ w0) × (l1 ≡ l0)
ControlCause status.Link w0 w1 l0 l1 = (w1 ≡ w0) × Rose l0 l1
ControlCause status.Write w0 w1 l0 l1 = Rose w0 w1
ControlCause status.Double w0 w1 l0 l1 = ⊥
ControlCause status.Usage w0 w1 l0 l1 = ⊥
ControlCause status.Configuration w0 w1 l0 l1 = ⊥
ControlCause status.Schedule w0 w1 l0 l1 = ⊥
ControlCause status.Read w0 w1 l0 l1 = ⊥
ControlCause status.Turns w0 w1 l0 l1 = ⊥
