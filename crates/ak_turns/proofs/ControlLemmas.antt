-- What a control command comes to.
use Rattle.std.proofs.Common.{◌≡◌, ℕ, Bool, true, ◌≤◌, List, [], ◌∷◌, Option, None, Result, Ok, Err, IfOk, OnErr, refl, sym, ap, subst, inl, inr, ◌∙◌}
use Rattle.ak_address.specs.Unique.{AddressModel}
use Rattle.ak_options.specs.declared.command.Request.{Request}
use Rattle.ak_options.specs.declared.command.Request.TheVariants.{Leave, Down, Offer}
use Rattle.ak_outside.specs.declared.link.Bound.TheVariants as bound
use Rattle.ak_outside.specs.declared.link.Sent.{Sent}
use Rattle.ak_outside.specs.declared.link.Sent as answer
use Rattle.ak_outside.specs.declared.status.Status.{Status}
use Rattle.ak_outside.specs.declared.status.Status.TheVariants as status
use Rattle.ak_outside.specs.Link.{Sends, SendCause, TakesPacket, Binds}
use Rattle.std.specs.declared.alloc.AllocError.{AllocError}
use Rattle.ak_wire.specs.declared.envelope.Envelope.{Envelope}
use Rattle.ak_wire.specs.declared.envelope.Message.{Message}
use Rattle.ak_wire.specs.Datagram.{datagram, is_for_anybody, IsReceiverUid}
use Rattle.ak_outside.specs.Endings.{memory_line}
use Rattle.ak_turns.specs.Outside.{Output, Wire, MakesSends, CountsLosses}
use Rattle.ak_turns.specs.Control.{WritesLine, Asks, AsksAndAnswers, Controls, ControlCause, answer_line, control_packet, message_of}

-- one send, and whether it was lost
pub loses_one : (l0 l1 : ℕ) (a : Sent) → l0 ≤ l1 → SendCause l0 l1 a → CountsLosses l0 l1 (a ∷ [])
loses_one l0 l1 answer.TheVariants.Sent rises cause = (rises, inl ((refl, tt), cause))
loses_one l0 l1 answer.TheVariants.Failed rises cause = (rises, inr cause)

-- a packet that asks was sent, or memory ran out before that, and then the link is as it was
pub asked : {X : Type 0} (r : Result Sent AllocError) (to : AddressModel) (say : Request) (e : Envelope) (w0 w1 : Wire) → e ≡ control_packet to say → w0.losses ≤ w1.losses → IfOk r (SendCause w0.losses w1.losses)
    → w1.bound ≡ w0.bound → IfOk r (TakesPacket w0.sends w1.sends e.to (datagram e)) → OnErr r X → (X → (w1.sends ≡ w0.sends) × (w1.losses ≡ w0.losses)) → Asks r to say w0 w1
asked (Ok a) to say e w0 w1 is rises cause bound takes same still =
    (subst (λ (x : Envelope). MakesSends w0.sends w1.sends (x ∷ []) (a ∷ [])) is takes, loses_one w0.losses w1.losses a rises cause, bound)
asked (Err error) to say e w0 w1 is rises cause bound takes same still = let kept = still same in (kept.0, kept.1, bound)

-- a line was written, whose status is no fault of the link's
pub cause_line : (ends result : Status) (line : List ℕ) (o0 o1 : Output) (l0 l1 : ℕ) → ((w : o1.faults ≡ o0.faults) → ControlCause ends o0.faults o1.faults l0 l1) → WritesLine ends line result o0 o1
    → ControlCause result o0.faults o1.faults l0 l1
cause_line ends result line o0 o1 l0 l1 so (inl w) = subst (λ (s : Status). ControlCause s o0.faults o1.faults l0 l1) (sym w.0) (so w.1)
cause_line ends result line o0 o1 l0 l1 so (inr w) = subst (λ (s : Status). ControlCause s o0.faults o1.faults l0 l1) (sym w.0) w.1

pub cause_asked : (result : Status) (to : AddressModel) (say : Request) (o0 o1 : Output) (w0 w1 : Wire) (l0 l1 : ℕ) → AsksAndAnswers result to say o0 o1 w0 w1 → l1 ≡ l0
    → ControlCause result o0.faults o1.faults l0 l1
cause_asked result to say o0 o1 w0 w1 l0 l1 a same =
    elim a.1 [
      | inl sends ↦ cause_line status.Done result (answer_line sends.answered) o0 o1 l0 l1 (λ w. (w, same)) sends.line
      | inr says ↦ cause_line status.Memory result memory_line o0 o1 l0 l1 (λ w. (w, same)) says.writes
    ]

-- the bind and then the asking
pub controls_asked : (result : Status) (to : AddressModel) (say : Request) (o0 o1 : Output) (w0 w w1 : Wire) → Binds w0.bound w.bound None bound.Ready → w.sends ≡ w0.sends → w.losses ≡ w0.losses
    → AsksAndAnswers result to say o0 o1 w w1 → Controls result to say o0 o1 w0 w1
controls_asked result to say o0 o1 w0 w w1 binds sends losses a =
    let b = subst (λ (x : Option (Option AddressModel)). Binds w0.bound x None bound.Ready) (sym a.0) binds in
    elim a.1 [
      | inl s ↦ inl (
        b,
        record {
          answered = s.answered;
          line = s.line;
          sends = subst (λ (x : Option Sends). MakesSends x w1.sends (control_packet to say ∷ []) (s.answered ∷ [])) sends s.sends;
          losses = subst (λ (x : ℕ). CountsLosses x w1.losses (s.answered ∷ [])) losses s.losses;
        },
      )
      | inr s ↦ inr (inl (b, record { writes = s.writes; sends = s.sends ∙ sends; losses = s.losses ∙ losses }))
    ]

-- what asks is for whichever process is at the address
is_to_anybody : (say : Request) → is_for_anybody (message_of say) ≡ true
is_to_anybody (Leave who) = refl
is_to_anybody (Down who) = refl
is_to_anybody (Offer entity payload) = refl

pub asks_anybody : (say : Request) (m : Message) → m ≡ message_of say → IsReceiverUid (is_for_anybody m) 0
asks_anybody say m is = subst (λ (b : Bool). IsReceiverUid b 0) (sym (ap is_for_anybody is ∙ is_to_anybody say)) refl
