-- A datagram is read as it is spelled.
use Rattle.std.proofs.Common.{◌≡◌, ℕ, Bool, true, false, List, [], ◌∷◌, ◌++◌, length, ◌==◌, ◌≤◌, if◌then◌else◌, Result, Ok, Err, IfOk, refl, sym, ap, subst, ◌∙◌, arith}
use Rattle.std.proofs.lemmas.List.{append-nil}
use Rattle.ak_address.specs.Unique.{UniqueModel, IsUnique, IsAddress}
use Rattle.ak_field.specs.declared.fault.WireFault.{WireFault}
use Rattle.ak_field.specs.Reading.{◌>>=◌}
use Rattle.ak_field.specs.Ranges.{IsProcess, IsHeader, IsVersionOfFormat, IsEntityIn, IsEntity}
use Rattle.ak_field.specs.Spelling.{format, header, process}
use Rattle.ak_field.specs.Fields.{header_at, process_at, unique_at, receiver_at}
use Rattle.ak_field.specs.Laws.{IsBytes, IsField, IsPrefixFree}
use Rattle.ak_field.proofs.Combined.{bind_ok, ok_is, made_field, first_field, valid_field, prefix_free}
use Rattle.ak_field.proofs.Whole.{Ranges, header_field, process_field, unique_field}
use Rattle.ak_wire.specs.declared.envelope.Envelope.{Envelope}
use Rattle.ak_wire.specs.declared.envelope.Message.{Message}
use Rattle.ak_wire.specs.declared.envelope.Message.TheVariants.{Join, Welcome, Gossip, Heartbeat, HeartbeatReply, ExitingConfirmed, Ask, Granted, Busy, Old, HandOverToMe, HandOverDone, Release, GetHome, Home, HostShard, ShardStarted, BeginHandOff, BeginHandOffAck, HandOff, ShardStopped, Forward, Leave, Down, Offer}
use Rattle.ak_wire.specs.Datagram.{Versioned, IsSpelled, spelled, kind_number, is_for_anybody, body, receiver, datagram_in, datagram, IsBodyIn, IsBody, IsReceiverUid, IsValidIn, IsValid, SpellsIn, Spells}
use Rattle.ak_wire.specs.ReadingDatagram.{body_at, is_kind_for_anybody, datagram_at, ended, read, GivesWhole}
use Rattle.ak_wire.proofs.BodyFields.{body_field}

-- ---- kinds
pub kind_in_range : (m : Message) → Ranges 1 25 (kind_number m)
kind_in_range Join = (omega arith, omega arith)
kind_in_range (Welcome g) = (omega arith, omega arith)
kind_in_range (Gossip g) = (omega arith, omega arith)
kind_in_range Heartbeat = (omega arith, omega arith)
kind_in_range HeartbeatReply = (omega arith, omega arith)
kind_in_range ExitingConfirmed = (omega arith, omega arith)
kind_in_range (Ask b) = (omega arith, omega arith)
kind_in_range (Granted b v rs) = (omega arith, omega arith)
kind_in_range (Busy b c) = (omega arith, omega arith)
kind_in_range (Old b c) = (omega arith, omega arith)
kind_in_range (HandOverToMe b) = (omega arith, omega arith)
kind_in_range (HandOverDone b v) = (omega arith, omega arith)
kind_in_range (Release b v) = (omega arith, omega arith)
kind_in_range (GetHome b s) = (omega arith, omega arith)
kind_in_range (Home b s u) = (omega arith, omega arith)
kind_in_range (HostShard b s n) = (omega arith, omega arith)
kind_in_range (ShardStarted b s n) = (omega arith, omega arith)
kind_in_range (BeginHandOff b s n) = (omega arith, omega arith)
kind_in_range (BeginHandOffAck b s n) = (omega arith, omega arith)
kind_in_range (HandOff b s n) = (omega arith, omega arith)
kind_in_range (ShardStopped b s n) = (omega arith, omega arith)
kind_in_range (Forward name bits) = (omega arith, omega arith)
kind_in_range (Leave u) = (omega arith, omega arith)
kind_in_range (Down u) = (omega arith, omega arith)
kind_in_range (Offer name bits) = (omega arith, omega arith)

-- the kind alone says whether a message is for any process
pub anybody : (m : Message) → is_kind_for_anybody (kind_number m) ≡ is_for_anybody m
anybody Join = refl
anybody (Welcome g) = refl
anybody (Gossip g) = refl
anybody Heartbeat = refl
anybody HeartbeatReply = refl
anybody ExitingConfirmed = refl
anybody (Ask b) = refl
anybody (Granted b v rs) = refl
anybody (Busy b c) = refl
anybody (Old b c) = refl
anybody (HandOverToMe b) = refl
anybody (HandOverDone b v) = refl
anybody (Release b v) = refl
anybody (GetHome b s) = refl
anybody (Home b s u) = refl
anybody (HostShard b s n) = refl
anybody (ShardStarted b s n) = refl
anybody (BeginHandOff b s n) = refl
anybody (BeginHandOffAck b s n) = refl
anybody (HandOff b s n) = refl
anybody (ShardStopped b s n) = refl
anybody (Forward name bits) = refl
anybody (Leave u) = refl
anybody (Down u) = refl
anybody (Offer name bits) = refl

-- ---- the receiver
abbrev done : Envelope → Result Envelope WireFault
done e = Ok e

abbrev IsReceiver : Bool → UniqueModel → Type 0
IsReceiver anybody u = IsAddress u.address × IsReceiverUid anybody u.uid

receiver_field : (anybody : Bool) → IsField (receiver_at anybody) process (IsReceiver anybody)
receiver_field true =
    valid_field (process_at 0 0) process (IsProcess 0 0) (IsReceiver true) (process_field 0 0 (omega arith))
    (λ u is. record { address = is.0; uid = omega arith; uid_fits = omega (arith, is.1) })
    (λ u is. (is.address, omega (arith, is.uid_fits)))
receiver_field false =
    valid_field unique_at process IsUnique (IsReceiver false) unique_field
    (λ u is. record { address = is.0; uid = is.1.0; uid_fits = is.1.1 })
    (λ u is. (is.address, (is.uid, is.uid_fits)))

-- ---- all of it
abbrev made : UniqueModel → UniqueModel → Message → Envelope
made from to message = record { from = from; to = to.address; uid = to.uid; message = message }

abbrev with_version : ℕ → Envelope → Versioned
with_version version e = (version, e)

abbrev AfterTo : ℕ × ℕ → UniqueModel → UniqueModel → Versioned → Type 0
AfterTo h from to x = (x ≡ with_version h.0 (made from to x.1.message)) × (IsBodyIn h.0 x.1.message × (kind_number x.1.message ≡ h.1))

abbrev AfterFrom : ℕ × ℕ → UniqueModel → Versioned → Type 0
AfterFrom h from x = (x.0 ≡ h.0) × ((x.1.from ≡ from) × (IsReceiver (is_kind_for_anybody h.1) (receiver x.1) × (IsBodyIn h.0 x.1.message × (kind_number x.1.message ≡ h.1))))

abbrev AfterKind : ℕ × ℕ → Versioned → Type 0
AfterKind h x = (x.0 ≡ h.0) × (IsUnique x.1.from × (IsReceiver (is_kind_for_anybody h.1) (receiver x.1) × (IsBodyIn h.0 x.1.message × (kind_number x.1.message ≡ h.1))))

last_field : (h : ℕ × ℕ) → IsHeader h → (from to : UniqueModel) → IsField (λ bytes. body_at h.0 h.1 bytes >>= λ message. Ok (with_version h.0 (made from to message.0), message.1)) (λ x. body x.1.message) (AfterTo h from to)
last_field h range from to =
    made_field (body_at h.0 h.1) body (λ m. IsBodyIn h.0 m × (kind_number m ≡ h.1)) (λ m. with_version h.0 (made from to m)) (λ x. x.1.message) (AfterTo h from to) (body_field h.0 h.1 range.1.0 range.1.1)
    (λ x is. (is.1, sym is.0))
    (λ m is fits. (refl, (refl, is)))

to_field : (h : ℕ × ℕ) → IsHeader h → (from : UniqueModel)
    → IsField (λ bytes. receiver_at (is_kind_for_anybody h.1) bytes >>= λ to. body_at h.0 h.1 to.1 >>= λ message. Ok (with_version h.0 (made from to.0 message.0), message.1)) (λ x. process (receiver x.1) ++ body x.1.message) (AfterFrom h from)
to_field h range from =
    first_field (receiver_at (is_kind_for_anybody h.1)) process (IsReceiver (is_kind_for_anybody h.1)) (λ x. receiver x.1) (λ to bytes. body_at h.0 h.1 bytes >>= λ message. Ok (with_version h.0 (made from to message.0), message.1)) (λ x. body x.1.message) (AfterTo h from) (AfterFrom h from)
    (receiver_field (is_kind_for_anybody h.1))
    (λ to is. last_field h range from to)
    (λ x is. (is.1.1.0, ((λ i. with_version (is.0 i) (made (is.1.0 i) (receiver x.1) x.1.message)), is.1.1.1)))
    (λ to x is after.
    let same : receiver x.1 ≡ to = ap (λ (y : Versioned). receiver y.1) after.0 in
    (same, (ap (λ (y : Versioned). y.0) after.0, (ap (λ (y : Versioned). y.1.from) after.0, (subst (IsReceiver (is_kind_for_anybody h.1)) (sym same) is, after.1)))))

from_field : (h : ℕ × ℕ) → IsHeader h
    → IsField (λ bytes. unique_at bytes >>= λ from. receiver_at (is_kind_for_anybody h.1) from.1 >>= λ to. body_at h.0 h.1 to.1 >>= λ message. Ok (with_version h.0 (made from.0 to.0 message.0), message.1)) (λ x. process x.1.from ++ (process (receiver x.1) ++ body x.1.message)) (AfterKind h)
from_field h range =
    first_field unique_at process IsUnique (λ x. x.1.from) (λ from bytes. receiver_at (is_kind_for_anybody h.1) bytes >>= λ to. body_at h.0 h.1 to.1 >>= λ message. Ok (with_version h.0 (made from to.0 message.0), message.1)) (λ x. process (receiver x.1) ++ body x.1.message) (AfterFrom h) (AfterKind h)
    unique_field
    (λ from is. to_field h range from)
    (λ x is. (is.1.0, (is.0, (refl, is.1.1))))
    (λ from x is after. (after.1.0, (after.0, (subst IsUnique (sym after.1.0) is, after.1.1))))

uid_of_kind : (e : Envelope) (kind : ℕ) → kind_number e.message ≡ kind → is_kind_for_anybody kind ≡ is_for_anybody e.message
uid_of_kind e kind is = ap is_kind_for_anybody (sym is) ∙ anybody e.message

pub datagram_field : IsField datagram_at spelled IsSpelled
unfolding datagram_at
datagram_field =
    first_field header_at header IsHeader (λ x. (x.0, kind_number x.1.message)) (λ h bytes. unique_at bytes >>= λ from. receiver_at (is_kind_for_anybody h.1) from.1 >>= λ to. body_at h.0 h.1 to.1 >>= λ message. Ok (with_version h.0 (made from.0 to.0 message.0), message.1)) (λ x. process x.1.from ++ (process (receiver x.1) ++ body x.1.message)) AfterKind IsSpelled
    header_field
    (λ h range. from_field h range)
    (λ x is. ((is.0, kind_in_range x.1.message), (refl, (is.1.from, ((is.1.to, subst (λ (b : Bool). IsReceiverUid b x.1.uid) (sym (anybody x.1.message)) is.1.uid), (is.1.body, refl))))))
    (λ h x range after.
    let kind = after.1.1.1.1 in (
      (λ i. (after.0 i, kind i)),
      (
        subst IsVersionOfFormat (sym after.0) range.0,
        record {
          from = after.1.0;
          to = after.1.1.0.0;
          uid = subst (λ (b : Bool). IsReceiverUid b x.1.uid) (uid_of_kind x.1 h.1 kind) after.1.1.0.1;
          body = subst (λ (n : ℕ). IsBodyIn n x.1.message) (sym after.0) after.1.1.1.0;
        },
      ),
    ))

-- ---- and nothing after it
ended_ok : (x : Versioned × List ℕ) (y : Versioned) → ended x ≡ Ok y → x ≡ (y, [])
ended_ok (y, []) z is = ap (λ (v : Versioned). (v, [])) (ok_is y z is)
ended_ok (y, byte ∷ rest) z is = absurd cc

abbrev whole : Versioned → Result Envelope WireFault
whole x = Ok x.1

pub read_again : (version : ℕ) (e : Envelope) → IsVersionOfFormat version → IsValidIn version e → read (datagram_in version e) ≡ Ok e
unfolding read
read_again version e of_format is =
    ap (λ (l : List ℕ). datagram_at l >>= λ x. ended x >>= whole) (sym (append-nil (datagram_in version e)))
    ∙ ap (λ r. r >>= λ x. ended x >>= whole) (datagram_field.again (version, e) [] (of_format, is))

pub read_was : (bytes : List ℕ) (e : Envelope) → IsBytes bytes → read bytes ≡ Ok e → Spells bytes e
unfolding read
read_was bytes e fits is =
    let b = bind_ok (datagram_at bytes) (λ x. ended x >>= whole) e is in
    let c = bind_ok (ended b.0) whole e b.2 in
    let w = datagram_field.was bytes c.0 [] fits (b.1 ∙ ap Ok (ended_ok b.0 c.0 c.1)) in
    let same : c.0.1 ≡ e = ok_is c.0.1 e c.2 in
    (c.0.0, subst (SpellsIn c.0.0 bytes) same (record { of_format = w.1.0; is = w.0 ∙ append-nil (datagram_in c.0.0 c.0.1); valid = w.1.1 }))

pub spelled_again : (bytes : List ℕ) (e : Envelope) → Spells bytes e → read bytes ≡ Ok e
spelled_again bytes e spells = ap read spells.1.is ∙ read_again spells.0 e spells.1.of_format spells.1.valid

-- in one version or in two
pub datagrams_free : IsPrefixFree spelled IsSpelled
datagrams_free = prefix_free datagram_at spelled IsSpelled datagram_field

-- what has a spelling in a version has one in the version that is written
longer : (version : ℕ) (name : List ℕ) → IsEntityIn version name → IsEntity name
longer version name is = record { not_empty = is.not_empty; short = by (version == 1) is.short; printable = is.printable }
  where
    by : (b : Bool) → length name ≤ (if b then 64 else 97) → length name ≤ 97
    by true le = omega (arith, le)
    by false le = le

body_still : (version : ℕ) (m : Message) → IsBodyIn version m → IsBody m
body_still version (Forward name bits) is = (longer version name is.0, is.1)
body_still version (Offer name bits) is = (longer version name is.0, is.1)
body_still version Join is = is
body_still version (Welcome g) is = is
body_still version (Gossip g) is = is
body_still version Heartbeat is = is
body_still version HeartbeatReply is = is
body_still version ExitingConfirmed is = is
body_still version (Ask b) is = is
body_still version (Granted b v rs) is = is
body_still version (Busy b c) is = is
body_still version (Old b c) is = is
body_still version (HandOverToMe b) is = is
body_still version (HandOverDone b v) is = is
body_still version (Release b v) is = is
body_still version (GetHome b s) is = is
body_still version (Home b s u) is = is
body_still version (HostShard b s n) is = is
body_still version (ShardStarted b s n) is = is
body_still version (BeginHandOff b s n) is = is
body_still version (BeginHandOffAck b s n) is = is
body_still version (HandOff b s n) is = is
body_still version (ShardStopped b s n) is = is
body_still version (Leave u) is = is
body_still version (Down u) is = is

pub valid_still : (version : ℕ) (e : Envelope) → IsValidIn version e → IsValid e
valid_still version e is = record { from = is.from; to = is.to; uid = is.uid; body = body_still version e.message is.body }

pub spelled_valid : (bytes : List ℕ) (e : Envelope) → Spells bytes e → IsValid e
spelled_valid bytes e spells = valid_still spells.0 e spells.1.valid

-- the version that is written is read
pub written : IsVersionOfFormat format
written = record { first = omega arith; last = omega arith }

pub written_again : (e : Envelope) → IsValid e → read (datagram e) ≡ Ok e
written_again e is = read_again format e written is

pub spells_written : (bytes : List ℕ) (e : Envelope) → bytes ≡ datagram e → IsValid e → SpellsIn format bytes e
spells_written bytes e is valid = record { of_format = written; is = is; valid = valid }

-- ---- what a call answers that gives what reading gives
pub spelled_of : (result : Result Envelope WireFault) (bytes : List ℕ) → IsBytes bytes → GivesWhole result (read bytes) → IfOk result (λ e. Spells bytes e)
spelled_of (Ok e) bytes fits gives = read_was bytes e fits gives
spelled_of (Err fault) bytes fits gives = tt

pub only_of : (result : Result Envelope WireFault) (bytes : List ℕ) → GivesWhole result (read bytes) → (e : Envelope) → Spells bytes e → GivesWhole result (done e)
only_of result bytes gives e spells = subst (GivesWhole result) (spelled_again bytes e spells) gives
