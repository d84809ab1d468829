-- Reading ends in no fault but one that has a number.
use Rattle.std.proofs.Common.{◌≡◌, ℕ, nat_le, true, is_some, List, [], ◌∷◌, Result, Err, refl, sym, true≢false}
use Rattle.ak_clock.specs.declared.version.TheConstants.{BOUND}
use Rattle.ak_field.specs.declared.fault.WireFault.{WireFault}
use Rattle.ak_field.specs.declared.fault.WireFault.TheVariants.{Short, Magic, Version, Kind, Count, Order, Range, Trailing, NoMemory}
use Rattle.ak_field.specs.Reading.{fault_number}
use Rattle.ak_field.specs.Fields.{process_at, receiver_at, header_at}
use Rattle.ak_field.specs.Parts.{parts_at}
use Rattle.ak_field.proofs.Numbered.{IsNumbered, fine, wrong, bind, choose, wide, a_number, a_shard, a_process, a_receiver, a_ballot, an_entity, a_header, a_version, some_reports, some_parts, has_number}
use Rattle.ak_wire.specs.declared.envelope.Envelope.{Envelope}
use Rattle.ak_wire.specs.ReadingDatagram.{pair_at, made_at, gossip_at, early_body_at, late_body_at, body_at, datagram_at, ended, read, IsBegun}

-- ---- a datagram

pair : {A B : Type 0} (one : List ℕ → Result (A × List ℕ) WireFault) (other : List ℕ → Result (B × List ℕ) WireFault) → ((bytes : List ℕ) → IsNumbered (one bytes)) → ((bytes : List ℕ) → IsNumbered (other bytes)) → (bytes : List ℕ) → IsNumbered (pair_at one other bytes)
unfolding pair_at
pair one other first second bytes = bind (one bytes) _ (first bytes) (λ x. bind (other x.1) _ (second x.1) (λ y. fine _))

made : {A B : Type 0} (make : A → B) (r : Result (A × List ℕ) WireFault) → IsNumbered r → IsNumbered (made_at make r)
unfolding made_at
made make r is = bind r _ is (λ field. fine _)

a_gossip : (bytes : List ℕ) → IsNumbered (gossip_at bytes)
unfolding gossip_at
a_gossip bytes = made _ (parts_at bytes) (some_parts bytes)

early_body : (kind : ℕ) (bytes : List ℕ) → IsNumbered (early_body_at kind bytes)
unfolding early_body_at
early_body kind bytes =
    choose _ _ _ (made _ _ (a_gossip bytes))
    (choose _ _ _ (made _ _ (a_ballot bytes))
    (choose _ _ _ (made _ _ (pair _ _ a_ballot (pair _ _ a_version some_reports) bytes))
    (choose _ _ _ (made _ _ (pair _ _ a_ballot a_ballot bytes))
    (choose _ _ _ (made _ _ (pair _ _ a_ballot a_version bytes)) (fine _)))))

late_body : (version kind : ℕ) (bytes : List ℕ) → IsNumbered (late_body_at version kind bytes)
unfolding late_body_at
late_body version kind bytes =
    choose _ _ _ (made _ _ (pair _ _ a_ballot a_shard bytes))
    (choose _ _ _ (made _ _ (pair _ _ a_ballot (pair _ _ a_shard (a_process _ _)) bytes))
    (choose _ _ _ (made _ _ (pair _ _ (an_entity version) (wide _) bytes))
    (choose _ _ _ (made _ _ (a_process _ _ bytes))
    (made _ _ (pair _ _ a_ballot (pair _ _ a_shard (a_number 1 BOUND)) bytes)))))

a_body : (version kind : ℕ) (bytes : List ℕ) → IsNumbered (body_at version kind bytes)
unfolding body_at
a_body version kind bytes = choose (nat_le kind 13) _ _ (early_body kind bytes) (late_body version kind bytes)

a_datagram : (bytes : List ℕ) → IsNumbered (datagram_at bytes)
unfolding datagram_at
a_datagram bytes =
    bind (header_at bytes) _ (a_header bytes) (λ kind.
    bind (process_at _ _ kind.1) _ (a_process _ _ kind.1) (λ from.
    bind (receiver_at _ from.1) _ (a_receiver _ from.1) (λ to.
    bind (body_at kind.0.0 kind.0.1 to.1) _ (a_body kind.0.0 kind.0.1 to.1) (λ message. fine _))))

nothing_left : (x : (ℕ × Envelope) × List ℕ) → IsNumbered (ended x)
nothing_left (e, []) = fine _
nothing_left (e, byte ∷ rest) = wrong _ Trailing refl

read_ends : (bytes : List ℕ) → IsNumbered (read bytes)
unfolding read
read_ends bytes = bind (datagram_at bytes) _ (a_datagram bytes) (λ x. bind (ended x) _ (nothing_left x) (λ whole. fine _))

pub read_numbered : (bytes : List ℕ) (fault : WireFault) → read bytes ≡ Err fault → is_some (fault_number fault) ≡ true
read_numbered bytes fault same = has_number (read bytes) (read_ends bytes) fault same

-- a header is read without memory
pub header_begins : (bytes : List ℕ) (fault : WireFault) → header_at bytes ≡ Err fault → IsBegun {X = ℕ × Envelope} (Err fault) bytes
header_begins bytes (NoMemory error) same = absurd (true≢false (sym (has_number (header_at bytes) (a_header bytes) (NoMemory error) same)))
header_begins bytes Short same = tt
header_begins bytes Magic same = tt
header_begins bytes Version same = tt
header_begins bytes Kind same = tt
header_begins bytes Count same = tt
header_begins bytes Order same = tt
header_begins bytes Range same = tt
header_begins bytes Trailing same = tt
