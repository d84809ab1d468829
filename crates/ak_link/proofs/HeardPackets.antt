-- What is got of a packet that a link heard: as much of it as the buffer has room for.
use Rattle.std.proofs.Common.{◌≡◌, ℕ, min, List, length, take, Option, Some, None, ap, subst, ◌∙◌, arith}
use Rattle.std.proofs.lemmas.List.{take_min}
use Rattle.ak_wire.specs.Datagram.{Spells}
use Rattle.ak_wire.specs.Laws.{FirstFault}
use Rattle.ak_outside.specs.Link.{Hears, HearsNext}
use Rattle.ak_outside.specs.declared.link.Heard.TheVariants as heard
use Rattle.ak_link.specs.Received.{GotOf, GotNext, Receives}
use Rattle.ak_link.specs.declared.received.Got.{Got}
use Rattle.ak_link.specs.declared.received.Got.TheVariants.{Envelope, Bad, Quiet, Failed, NoMemory}

-- the bytes that were heard are those of the packet, up to the room
as_heard : (bytes buffer : List ℕ) (n : ℕ) → n ≡ min (length bytes) (length buffer) → take n buffer ≡ take n bytes → take n buffer ≡ take (length buffer) bytes
as_heard bytes buffer n many same =
    let least : n ≡ min (length buffer) (length bytes) = omega (arith, many) in
    same ∙ ap (λ m. take m bytes) least ∙ take_min (length buffer) bytes

got_next : (old new : List (Option (List ℕ))) (n : ℕ) (buffer : List ℕ) (got : Got) → HearsNext old new (heard.Packet n) buffer → GotOf (take n buffer) got → GotNext old new (length buffer) got
got_next old new n buffer (Envelope envelope) (bytes, was, many, same) spelled = (bytes, was, subst (λ front. Spells front envelope) (as_heard bytes buffer n many same) spelled)
got_next old new n buffer (Bad number) (bytes, was, many, same) fault = (bytes, was, subst (λ front. FirstFault front number) (as_heard bytes buffer n many same) fault)
got_next old new n buffer Quiet next none = absurd none
got_next old new n buffer Failed next none = absurd none
got_next old new n buffer (NoMemory error) (bytes, was, many, same) all = (bytes, was)

pub received : (old new : Option (List (Option (List ℕ)))) (n : ℕ) (buffer : List ℕ) (got : Got) → Hears old new (heard.Packet n) buffer → GotOf (take n buffer) got → Receives old new (length buffer) got
received None new n buffer got hears of_it = tt
received (Some coming) new n buffer got (left, is, next) of_it = (left, is, got_next coming left n buffer got next of_it)
