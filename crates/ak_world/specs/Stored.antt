-- Packets, of which each different one is stored once (this project's choice).
use Rattle.std.specs.Prelude.{◌≡◌, ℕ, ◌-◌, ◌<◌, ◌==◌, Bool, true, nat_eq, List, [], ◌∷◌, map, length, slice_get, Option, None, Some, Result, Ok, if◌then◌else◌}
use Rattle.std.specs.List.{AllByRecursion, Contains}
use Rattle.std.specs.Set.{is_member, distinct_count}
use Rattle.std.specs.Cmp.Lexicographic.{pointwise}
use Rattle.ak_wire.specs.declared.envelope.Envelope.{Envelope}
use Rattle.ak_wire.specs.Datagram.{datagram, IsValid}
use Rattle.ak_wire.specs.Wire.{put}
use Rattle.ak_packet.specs.Alike.{is_alike}
use Rattle.ak_world.specs.declared.world.Reason.{Reason}
use Rattle.ak_world.specs.World.{Done}

-- the bytes of two packets are the same
abbrev pub is_same : Envelope → Envelope → Bool
is_same d e = pointwise nat_eq (datagram d) (datagram e)

-- how many different datagrams there are among the packets: those with the same bytes count once
abbrev pub different : List Envelope → ℕ
different packets = distinct_count (pointwise nat_eq) (map datagram packets)

-- the packets that were sent, in their order, by the places of what is stored
abbrev pub at_places : List Envelope → List ℕ → List Envelope
at_places stored [] = []
at_places stored (place ∷ places) = put (slice_get stored place) (at_places stored places)

-- the place of the packet of a number from 1 on
abbrev pub place_at : List ℕ → ℕ → Option ℕ
place_at places number = if number == 0 then None else slice_get places (number - 1)

-- Each place is one of a stored packet, each stored packet has a place, and each has a spelling.
pub record AreStored (stored : List Envelope) (places : List ℕ) : Type 0 where
  pub placed : AllByRecursion (λ place. place < length stored) places
  pub sent : (e : Envelope) → is_member is_same stored e ≡ is_member is_same (at_places stored places) e
  pub valid : AllByRecursion IsValid stored

-- a packet that is alike stands at a place
abbrev pub StandsAt : List Envelope → Envelope → ℕ → Type 0
StandsAt stored e place = (d : Envelope) × (slice_get stored place ≡ Some d) × (is_alike e d ≡ true)

-- Those that are alike are the same: what a version shows need not be compared.
abbrev pub AreToldApart : List Envelope → Type 0
AreToldApart packets = (d e : Envelope) → Contains packets d → Contains packets e → is_alike d e ≡ true → d ≡ e

-- so it is of the packets that an event leaves
abbrev pub LeavesToldApart : Result Done Reason → Type 0
LeavesToldApart answer = (done : Done) → answer ≡ Ok done → AreToldApart done.world.packets
