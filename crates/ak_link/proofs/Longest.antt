-- How many bytes a datagram has at most, field by field.
use Rattle.std.proofs.Common.{◌≡◌, ℕ, zero, suc, ◌+◌, ◌*◌, ◌≤◌, List, [], ◌∷◌, ◌++◌, length, slice_get, Some, refl, arith}
use Rattle.std.specs.List.{AllByRecursion, flat_map}
use Rattle.std.specs.FinMap as map
use Rattle.std.proofs.lemmas.List.{length-append}
use Rattle.ak_address.specs.Unique.{UniqueModel, IsAddress, IsUnique}
use Rattle.ak_promise.specs.Ballot.{BallotModel, IsBallot}
use Rattle.ak_clock.specs.Version.{Counts}
use Rattle.ak_shard_id.specs.declared.report.Report.{Report}
use Rattle.ak_gossip.specs.declared.part.Part.{Part}
use Rattle.ak_gossip.specs.Gossip.{GossipState}
use Rattle.ak_gossip.specs.Parts.{parts_of}
use Rattle.ak_field.specs.Ranges.{IsNumber, IsEntity}
use Rattle.ak_field.specs.Spelling.{byte, two_bytes, eight_bytes, header, process, ballot, shard, flag, entity, counted, version, reports, report, format}
use Rattle.ak_field.specs.Lists.{IsShort, AreReports}
use Rattle.ak_field.specs.Parts.{subjects, part, parts, AreSpelled}
use Rattle.ak_field.proofs.Measured.{reports_measured}
use Rattle.ak_field.proofs.Written.{subjects_fit}
use Rattle.ak_wire.specs.declared.envelope.Envelope.{Envelope}
use Rattle.ak_wire.specs.declared.envelope.Message.{Message}
use Rattle.ak_wire.specs.declared.envelope.Message.TheVariants.{Join, Welcome, Gossip, Heartbeat, HeartbeatReply, ExitingConfirmed, Ask, Granted, Busy, Old, HandOverToMe, HandOverDone, Release, GetHome, Home, HostShard, ShardStarted, BeginHandOff, BeginHandOffAck, HandOff, ShardStopped, Forward, Leave, Down, Offer}
use Rattle.ak_wire.specs.Datagram.{kind_number, receiver, placed, payload, body, datagram, IsBody, IsSendable, IsValid}
use Rattle.ak_wire.proofs.GossipFields.{spelled_parts}

-- two texts together
both : (xs ys : List ℕ) (a b : ℕ) → length xs ≤ a → length ys ≤ b → length (xs ++ ys) ≤ a + b
both xs ys a b p q = omega (arith, length-append xs ys)

process_len : (u : UniqueModel) → IsAddress u.address → length (process u) ≤ 75
process_len u is =
    both (byte (length u.address.host)) (u.address.host ++ (two_bytes u.address.port ++ eight_bytes u.uid)) 1 74 (omega arith)
    (both u.address.host (two_bytes u.address.port ++ eight_bytes u.uid) 64 10 is.host.short (both (two_bytes u.address.port) (eight_bytes u.uid) 2 8 (omega arith) (omega arith)))

ballot_len : (b : BallotModel) → IsBallot b → length (ballot b) ≤ 83
ballot_len b is = both (eight_bytes b.term) (process b.unique) 8 75 (omega arith) (process_len b.unique is.unique.address)

counted_len : (pair : UniqueModel × ℕ) → IsUnique pair.0 → length (counted pair) ≤ 83
counted_len pair is = both (process pair.0) (eight_bytes pair.1) 75 8 (process_len pair.0 is.address) (omega arith)

all_counted : (es : List (UniqueModel × ℕ)) → AllByRecursion (λ (pair : UniqueModel × ℕ). IsUnique pair.0 × IsNumber pair.1) es → length (flat_map counted es) ≤ 83 * length es
all_counted [] each = omega arith
all_counted (e ∷ es) each =
    let more = both (counted e) (flat_map counted es) 83 (83 * length es) (counted_len e each.0.0) (all_counted es each.1) in
    omega (arith, more)

version_len : (v : Counts) → IsShort v → length (version v) ≤ 10625
version_len v is =
    both (byte (map.len v)) (flat_map counted (map.entries v)) 1 10624 (omega arith) (let all = all_counted (map.entries v) is.each in let few = is.few in omega (arith, all, few, map.len-entries v))

reports_len : (rs : List Report) → AreReports rs → length (reports rs) ≤ 11002
reports_len rs is = both (two_bytes (length rs)) (flat_map report rs) 2 11000 (omega arith) (let all = reports_measured rs in let few = is.few in omega (arith, all, few))

subjects_len : (number : ℕ) (list : List ℕ) → length list ≤ 128 → length (subjects number list) ≤ 129
subjects_len zero list few = omega arith
subjects_len (suc number) list few = both (byte (length list)) list 1 128 (omega arith) few

part_len : (p : Part) → IsUnique p.unique → length p.subjects ≤ 128 → length (part p) ≤ 230
part_len p who few =
    let rest4 = both (eight_bytes p.row_number) (subjects p.row_number p.subjects) 8 129 (omega arith) (subjects_len p.row_number p.subjects few) in
    let rest3 = both (flag p.seen) (eight_bytes p.row_number ++ subjects p.row_number p.subjects) 1 137 (omega arith) rest4 in
    let rest2 = both (eight_bytes p.up_number) (flag p.seen ++ (eight_bytes p.row_number ++ subjects p.row_number p.subjects)) 8 138 (omega arith) rest3 in
    let rest1 = both (byte p.state) (eight_bytes p.up_number ++ (flag p.seen ++ (eight_bytes p.row_number ++ subjects p.row_number p.subjects))) 1 146 (omega arith) rest2 in
    let rest0 = both (eight_bytes p.count) (byte p.state ++ (eight_bytes p.up_number ++ (flag p.seen ++ (eight_bytes p.row_number ++ subjects p.row_number p.subjects)))) 8 147 (omega arith) rest1 in
    both (process p.unique) (eight_bytes p.count ++ (byte p.state ++ (eight_bytes p.up_number ++ (flag p.seen ++ (eight_bytes p.row_number ++ subjects p.row_number p.subjects))))) 75 155 (process_len p.unique who.address) rest0

all_parts : (ps : List Part) → ((i : ℕ) (p : Part) → slice_get ps i ≡ Some p → length p.subjects ≤ 128) → AllByRecursion (λ (p : Part). IsUnique p.unique) ps → length (flat_map part ps) ≤ 230 * length ps
all_parts [] few each = omega arith
all_parts (p ∷ ps) few each =
    let more = both (part p) (flat_map part ps) 230 (230 * length ps) (part_len p each.0 (few 0 p refl)) (all_parts ps (λ i q at. few (suc i) q at) each.1) in
    omega (arith, more)

parts_len : (ps : List Part) → AreSpelled ps → length (parts ps) ≤ 29441
parts_len ps is =
    let few = is.parts.few in
    both (byte (length ps)) (flat_map part ps) 1 29440 (omega arith)
    (let all = all_parts ps (λ i p at. omega (arith, few, subjects_fit (length ps) p (is.parts.each i p at))) is.uniques in omega (arith, all, few))

gossip_len : (g : GossipState) → IsSendable g → length (parts (parts_of g)) ≤ 29441
gossip_len g is = parts_len (parts_of g) (spelled_parts g is)

placed_len : (b : BallotModel) (s n : ℕ) → IsBallot b → length (placed b s n) ≤ 93
placed_len b s n is = both (ballot b) (shard s ++ eight_bytes n) 83 10 (ballot_len b is) (both (shard s) (eight_bytes n) 2 8 (omega arith) (omega arith))

entity_len : (name : List ℕ) → IsEntity name → length (entity name) ≤ 98
entity_len name is = both (byte (length name)) name 1 97 (omega arith) is.short

payload_len : (name : List ℕ) (bits : ℕ) → IsEntity name → length (payload name bits) ≤ 106
payload_len name bits is = both (entity name) (eight_bytes bits) 98 8 (entity_len name is) (omega arith)

most : (xs : List ℕ) (n : ℕ) → length xs ≤ n → n ≤ 29441 → length xs ≤ 29441
most xs n p q = omega arith

body_len : (m : Message) → IsBody m → length (body m) ≤ 29441
body_len Join is = omega arith
body_len (Welcome g) is = gossip_len g is
body_len (Gossip g) is = gossip_len g is
body_len Heartbeat is = omega arith
body_len HeartbeatReply is = omega arith
body_len ExitingConfirmed is = omega arith
body_len (Ask b) is = most (ballot b) 83 (ballot_len b is) (omega arith)
body_len (Granted b v rs) is =
    most (ballot b ++ (version v ++ reports rs)) 21710 (both (ballot b) (version v ++ reports rs) 83 21627 (ballot_len b is.0) (both (version v) (reports rs) 10625 11002 (version_len v is.1.0) (reports_len rs is.1.1))) (omega arith)
body_len (Busy b c) is = most (ballot b ++ ballot c) 166 (both (ballot b) (ballot c) 83 83 (ballot_len b is.0) (ballot_len c is.1)) (omega arith)
body_len (Old b c) is = most (ballot b ++ ballot c) 166 (both (ballot b) (ballot c) 83 83 (ballot_len b is.0) (ballot_len c is.1)) (omega arith)
body_len (HandOverToMe b) is = most (ballot b) 83 (ballot_len b is) (omega arith)
body_len (HandOverDone b v) is = most (ballot b ++ version v) 10708 (both (ballot b) (version v) 83 10625 (ballot_len b is.0) (version_len v is.1)) (omega arith)
body_len (Release b v) is = most (ballot b ++ version v) 10708 (both (ballot b) (version v) 83 10625 (ballot_len b is.0) (version_len v is.1)) (omega arith)
body_len (GetHome b s) is = most (ballot b ++ shard s) 85 (both (ballot b) (shard s) 83 2 (ballot_len b is.0) (omega arith)) (omega arith)
body_len (Home b s u) is =
    most (ballot b ++ (shard s ++ process u)) 160 (both (ballot b) (shard s ++ process u) 83 77 (ballot_len b is.0) (both (shard s) (process u) 2 75 (omega arith) (process_len u is.1.1.address))) (omega arith)
body_len (HostShard b s n) is = most (placed b s n) 93 (placed_len b s n is.0) (omega arith)
body_len (ShardStarted b s n) is = most (placed b s n) 93 (placed_len b s n is.0) (omega arith)
body_len (BeginHandOff b s n) is = most (placed b s n) 93 (placed_len b s n is.0) (omega arith)
body_len (BeginHandOffAck b s n) is = most (placed b s n) 93 (placed_len b s n is.0) (omega arith)
body_len (HandOff b s n) is = most (placed b s n) 93 (placed_len b s n is.0) (omega arith)
body_len (ShardStopped b s n) is = most (placed b s n) 93 (placed_len b s n is.0) (omega arith)
body_len (Forward name bits) is = most (payload name bits) 106 (payload_len name bits is.0) (omega arith)
body_len (Leave u) is = most (process u) 75 (process_len u is.address) (omega arith)
body_len (Down u) is = most (process u) 75 (process_len u is.address) (omega arith)
body_len (Offer name bits) is = most (payload name bits) 106 (payload_len name bits is.0) (omega arith)

header_len : (kind : ℕ × ℕ) → length (header kind) ≤ 5
header_len kind = let e : length (header kind) ≡ 5 = refl in omega (arith, e)

pub datagram_len : (e : Envelope) → IsValid e → length (datagram e) ≤ 29596
datagram_len e is =
    both (header (format, kind_number e.message)) (process e.from ++ (process (receiver e) ++ body e.message)) 5 29591 (header_len (format, kind_number e.message))
    (both (process e.from) (process (receiver e) ++ body e.message) 75 29516 (process_len e.from is.from.address)
    (both (process (receiver e)) (body e.message) 75 29441 (process_len (receiver e) is.to) (body_len e.message is.body)))
