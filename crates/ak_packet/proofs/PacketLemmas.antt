-- A hash is fed alike of packets that are alike.
use Rattle.std.proofs.Common.{◌≡◌, List, ◌++◌, ℕ, refl, sym, ap, fold, ◌∙◌}
use Rattle.std.specs.Hash as fed
use Rattle.ak_address.specs.Keys.{address_key, unique_key, fed_of_address, fed_of_unique}
use Rattle.ak_field.proofs.Combined.{ok_is}
use Rattle.ak_wire.specs.declared.envelope.Envelope.{Envelope}
use Rattle.ak_wire.specs.declared.envelope.Message.{Message}
use Rattle.ak_wire.specs.declared.envelope.Message.TheVariants.{Join, Welcome, Gossip, Heartbeat, HeartbeatReply, ExitingConfirmed, Ask, Granted, Busy, Old, HandOverToMe, HandOverDone, Release, GetHome, Home, HostShard, ShardStarted, BeginHandOff, BeginHandOffAck, HandOff, ShardStopped, Forward, Leave, Down, Offer}
use Rattle.ak_wire.specs.Datagram.{datagram, IsValid}
use Rattle.ak_wire.specs.ReadingDatagram.{read}
use Rattle.ak_wire.proofs.DatagramFields.{written_again}
use Rattle.ak_packet.specs.Alike.{bare, bare_message}
use Rattle.ak_packet.specs.Hashed.{hashed_message, hashed}

-- two valid envelopes with the same bytes are the same
pub of_same_bytes : (d e : Envelope) → IsValid d → IsValid e → datagram d ≡ datagram e → d ≡ e
of_same_bytes d e valid too same = ok_is d e (sym (written_again d valid) ∙ ap read same ∙ written_again e too)

-- nothing is fed of what a version shows
of_bare : (m : Message) → hashed_message (bare_message m) ≡ hashed_message m
of_bare Join = refl
of_bare (Welcome g) = refl
of_bare (Gossip g) = refl
of_bare Heartbeat = refl
of_bare HeartbeatReply = refl
of_bare ExitingConfirmed = refl
of_bare (Ask b) = refl
of_bare (Granted b v rs) = refl
of_bare (Busy b c) = refl
of_bare (Old b c) = refl
of_bare (HandOverToMe b) = refl
of_bare (HandOverDone b v) = refl
of_bare (Release b v) = refl
of_bare (GetHome b s) = refl
of_bare (Home b s u) = refl
of_bare (HostShard b s n) = refl
of_bare (ShardStarted b s n) = refl
of_bare (BeginHandOff b s n) = refl
of_bare (BeginHandOffAck b s n) = refl
of_bare (HandOff b s n) = refl
of_bare (ShardStopped b s n) = refl
of_bare (Forward name bits) = refl
of_bare (Leave u) = refl
of_bare (Down u) = refl
of_bare (Offer name bits) = refl

hashed_bare : (e : Envelope) → hashed (bare e) ≡ hashed e
hashed_bare e = λ i. fed_of_unique (unique_key e.from) ++ (fed_of_address (address_key e.to) ++ (fed.u64 e.uid ++ of_bare e.message i))

pub fed_alike : {S : Type 0} (write : S → List ℕ → S) (s t : S) (e : Envelope) → t ≡ fold write s (hashed e) → t ≡ fold write s (hashed (bare e))
fed_alike write s t e is = is ∙ ap (fold write s) (sym (hashed_bare e))
