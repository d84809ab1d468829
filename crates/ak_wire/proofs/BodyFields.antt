-- Bodies are read as they are spelled, kind by kind.
use Rattle.std.proofs.Common.{◌≡◌, ℕ, zero, suc, ◌+◌, ◌^◌, ◌<◌, ◌≤◌, List, [], ◌++◌, Result, Ok, inl, inr, refl, sym, ap, subst, ◌∙◌, arith}
use Rattle.std.specs.Prelude.{⊤}
use Rattle.std.specs.Int.{w64}
use Rattle.std.proofs.lemmas.Bool.{cases_lt}
use Rattle.ak_address.specs.Unique.{UniqueModel, IsUnique}
use Rattle.ak_clock.specs.declared.version.TheConstants.{BOUND}
use Rattle.ak_clock.specs.Version.{Counts}
use Rattle.ak_promise.specs.Ballot.{BallotModel, IsBallot}
use Rattle.ak_gossip.specs.Gossip.{GossipState}
use Rattle.ak_gossip.specs.Parts.{parts_of}
use Rattle.ak_field.specs.declared.fault.WireFault.{WireFault}
use Rattle.ak_field.specs.Reading.{◌>>=◌, wide_at}
use Rattle.ak_field.specs.Ranges.{IsEntityIn, IsNumber, IsShard}
use Rattle.ak_field.specs.Spelling.{eight_bytes, process, ballot, shard, entity, version, reports}
use Rattle.ak_field.specs.Fields.{number_at, shard_at, unique_at, ballot_at, entity_at}
use Rattle.ak_field.specs.Lists.{version_at, reports_at, IsShort, AreReports}
use Rattle.ak_field.specs.Parts.{parts}
use Rattle.ak_field.specs.Laws.{IsBytes, IsField}
use Rattle.ak_field.proofs.Combined.{bind_ok, ok_is, made_field, first_field, valid_field}
use Rattle.ak_field.proofs.ListFields.{version_field, reports_field}
use Rattle.ak_field.proofs.Small.{wide_field, wide64}
use Rattle.ak_field.proofs.Whole.{Ranges, number_field, shard_field, unique_field, ballot_field, entity_field}
use Rattle.ak_wire.specs.declared.envelope.Message.{Message}
use Rattle.ak_wire.specs.declared.envelope.Message.TheVariants.{Join, Welcome, Gossip, Heartbeat, HeartbeatReply, ExitingConfirmed, Ask, Granted, Busy, Old, HandOverToMe, HandOverDone, Release, GetHome, Home, HostShard, ShardStarted, BeginHandOff, BeginHandOffAck, HandOff, ShardStopped, Forward, Leave, Down, Offer}
use Rattle.ak_wire.specs.Datagram.{kind_number, body, placed, payload, IsSendable, IsBodyIn}
use Rattle.ak_wire.specs.ReadingDatagram.{pair_at, made_at, gossip_at, granted_at, two_ballots_at, done_at, get_home_at, home_at, placed_at, payload_at, told, asking, granting, refusing, ending, seeking, homing, placing, carrying, naming, early_body_at, late_body_at, body_at}
use Rattle.ak_wire.proofs.GossipFields.{gossip_field}

-- ---- fields of several
pub pair_field : {A B : Type 0} (one : List ℕ → Result (A × List ℕ) WireFault) (s : A → List ℕ) (V : A → Type 0) (other : List ℕ → Result (B × List ℕ) WireFault) (t : B → List ℕ) (W : B → Type 0)
    → IsField one s V → IsField other t W → IsField (pair_at one other) (λ p. s p.0 ++ t p.1) (λ p. V p.0 × W p.1)
unfolding pair_at
pair_field {A} {B} one s V other t W first second =
    let After : A → A × B → Type 0 = λ a p. (p.0 ≡ a) × W p.1 in
    first_field one s V (λ p. p.0) (λ a bytes. other bytes >>= λ b. Ok ((a, b.0), b.1)) (λ p. t p.1) After (λ p. V p.0 × W p.1) first
    (λ a is. made_field other t W (λ b. (a, b)) (λ p. p.1) (After a) second
    (λ p v. (v.1, ap (λ (x : A). (x, p.1)) (sym v.0)))
    (λ b w fits. (refl, (refl, w))))
    (λ p v. (v.0, (refl, v.1)))
    (λ a p is after. (after.0, (subst V (sym after.0) is, after.1)))

pub some_number_field : IsField (number_at 1 BOUND) eight_bytes IsNumber
some_number_field =
    valid_field (number_at 1 BOUND) eight_bytes (Ranges 1 BOUND) IsNumber (number_field 1 BOUND (omega arith))
    (λ n is. (is.some, is.bounded))
    (λ n is. record { some = is.0; bounded = is.1 })

granted_field : IsField granted_at (λ x. ballot x.0 ++ (version x.1.0 ++ reports x.1.1)) (λ x. IsBallot x.0 × (IsShort x.1.0 × AreReports x.1.1))
granted_field =
    pair_field ballot_at ballot IsBallot (pair_at version_at reports_at) (λ y. version y.0 ++ reports y.1) (λ y. IsShort y.0 × AreReports y.1) ballot_field
    (pair_field version_at version IsShort reports_at reports AreReports version_field reports_field)

two_ballots_field : IsField two_ballots_at (λ x. ballot x.0 ++ ballot x.1) (λ x. IsBallot x.0 × IsBallot x.1)
two_ballots_field = pair_field ballot_at ballot IsBallot ballot_at ballot IsBallot ballot_field ballot_field

done_field : IsField done_at (λ x. ballot x.0 ++ version x.1) (λ x. IsBallot x.0 × IsShort x.1)
done_field = pair_field ballot_at ballot IsBallot version_at version IsShort ballot_field version_field

get_home_field : IsField get_home_at (λ x. ballot x.0 ++ shard x.1) (λ x. IsBallot x.0 × IsShard x.1)
get_home_field = pair_field ballot_at ballot IsBallot shard_at shard IsShard ballot_field shard_field

home_field : IsField home_at (λ x. ballot x.0 ++ (shard x.1.0 ++ process x.1.1)) (λ x. IsBallot x.0 × (IsShard x.1.0 × IsUnique x.1.1))
home_field =
    pair_field ballot_at ballot IsBallot (pair_at shard_at unique_at) (λ y. shard y.0 ++ process y.1) (λ y. IsShard y.0 × IsUnique y.1) ballot_field
    (pair_field shard_at shard IsShard unique_at process IsUnique shard_field unique_field)

placed_field : IsField placed_at (λ x. placed x.0 x.1.0 x.1.1) (λ x. IsBallot x.0 × (IsShard x.1.0 × IsNumber x.1.1))
placed_field =
    pair_field ballot_at ballot IsBallot (pair_at shard_at (number_at 1 BOUND)) (λ y. shard y.0 ++ eight_bytes y.1) (λ y. IsShard y.0 × IsNumber y.1) ballot_field
    (pair_field shard_at shard IsShard (number_at 1 BOUND) eight_bytes IsNumber shard_field some_number_field)

payload_field : (edition : ℕ) → IsField (payload_at edition) (λ x. payload x.0 x.1) (λ x. IsEntityIn edition x.0 × (x.1 < 2 ^ 64))
payload_field edition = pair_field (entity_at edition) entity (IsEntityIn edition) (wide_at w64) eight_bytes (λ n. n < 2 ^ 64) (entity_field edition) (wide_field w64 (2 ^ 64) wide64)

-- ---- what is spelled is read again
pub body_again : (edition : ℕ) (m : Message) (rest : List ℕ) → IsBodyIn edition m → body_at edition (kind_number m) (body m ++ rest) ≡ Ok (m, rest)
unfolding body_at early_body_at late_body_at made_at
body_again edition Join rest is = refl
body_again edition (Welcome g) rest is = ap (made_at (told 2)) (gossip_field.again g rest is)
body_again edition (Gossip g) rest is = ap (made_at (told 3)) (gossip_field.again g rest is)
body_again edition Heartbeat rest is = refl
body_again edition HeartbeatReply rest is = refl
body_again edition ExitingConfirmed rest is = refl
body_again edition (Ask b) rest is = ap (made_at (asking 7)) (ballot_field.again b rest is)
body_again edition (Granted b v rs) rest is = ap (made_at granting) (granted_field.again (b, (v, rs)) rest is)
body_again edition (Busy b c) rest is = ap (made_at (refusing 9)) (two_ballots_field.again (b, c) rest is)
body_again edition (Old b c) rest is = ap (made_at (refusing 10)) (two_ballots_field.again (b, c) rest is)
body_again edition (HandOverToMe b) rest is = ap (made_at (asking 11)) (ballot_field.again b rest is)
body_again edition (HandOverDone b v) rest is = ap (made_at (ending 12)) (done_field.again (b, v) rest is)
body_again edition (Release b v) rest is = ap (made_at (ending 13)) (done_field.again (b, v) rest is)
body_again edition (GetHome b s) rest is = ap (made_at seeking) (get_home_field.again (b, s) rest is)
body_again edition (Home b s u) rest is = ap (made_at homing) (home_field.again (b, (s, u)) rest is)
body_again edition (HostShard b s n) rest is = ap (made_at (placing 16)) (placed_field.again (b, (s, n)) rest is)
body_again edition (ShardStarted b s n) rest is = ap (made_at (placing 17)) (placed_field.again (b, (s, n)) rest is)
body_again edition (BeginHandOff b s n) rest is = ap (made_at (placing 18)) (placed_field.again (b, (s, n)) rest is)
body_again edition (BeginHandOffAck b s n) rest is = ap (made_at (placing 19)) (placed_field.again (b, (s, n)) rest is)
body_again edition (HandOff b s n) rest is = ap (made_at (placing 20)) (placed_field.again (b, (s, n)) rest is)
body_again edition (ShardStopped b s n) rest is = ap (made_at (placing 21)) (placed_field.again (b, (s, n)) rest is)
body_again edition (Forward name bits) rest is = ap (made_at (carrying 22)) ((payload_field edition).again (name, bits) rest is)
body_again edition (Leave u) rest is = ap (made_at (naming 23)) (unique_field.again u rest is)
body_again edition (Down u) rest is = ap (made_at (naming 24)) (unique_field.again u rest is)
body_again edition (Offer name bits) rest is = ap (made_at (carrying 25)) ((payload_field edition).again (name, bits) rest is)

-- ---- what is read was spelled
abbrev IsOf : ℕ → ℕ → Message → Type 0
IsOf edition kind m = IsBodyIn edition m × (kind_number m ≡ kind)

abbrev Was : ℕ → ℕ → (List ℕ → Result (Message × List ℕ) WireFault) → Type 0
Was edition kind at = (bytes : List ℕ) (m : Message) (rest : List ℕ) → IsBytes bytes → at bytes ≡ Ok (m, rest) → (bytes ≡ body m ++ rest) × IsOf edition kind m

was : {A : Type 0} (edition kind : ℕ) (at : List ℕ → Result (A × List ℕ) WireFault) (spelled : A → List ℕ) (Valid : A → Type 0) (make : A → Message)
    → IsField at spelled Valid → ((a : A) → Valid a → (body (make a) ≡ spelled a) × IsOf edition kind (make a)) → Was edition kind (λ bytes. made_at make (at bytes))
unfolding made_at
was {A} edition kind at spelled Valid make field made bytes m rest fits e =
    let b = bind_ok (at bytes) (λ field. Ok (make field.0, field.1)) (m, rest) e in
    let w = field.was bytes b.0.0 b.0.1 fits b.1 in
    let h = made b.0.0 w.1 in
    subst (λ (y : Message × List ℕ). (bytes ≡ body y.0 ++ y.1) × IsOf edition kind y.0) (ok_is (make b.0.0, b.0.1) (m, rest) b.2) (w.0 ∙ ap (λ (t : List ℕ). t ++ b.0.1) (sym h.0), h.1)

bare_was : (edition kind : ℕ) (made : Message) → (body made ≡ []) × IsOf edition kind made → Was edition kind (λ bytes. Ok (made, bytes))
bare_was edition kind made is bytes m rest fits e =
    subst (λ (y : Message × List ℕ). (bytes ≡ body y.0 ++ y.1) × IsOf edition kind y.0) (ok_is (made, bytes) (m, rest) e) (ap (λ (t : List ℕ). t ++ bytes) (sym is.0), is.1)

told_was : (edition kind : ℕ) → ((g : GossipState) → IsSendable g → (body (told kind g) ≡ parts (parts_of g)) × IsOf edition kind (told kind g)) → Was edition kind (λ bytes. made_at (told kind) (gossip_at bytes))
told_was edition kind made = was edition kind gossip_at (λ g. parts (parts_of g)) IsSendable (told kind) gossip_field made

asking_was : (edition kind : ℕ) → ((b : BallotModel) → IsBallot b → (body (asking kind b) ≡ ballot b) × IsOf edition kind (asking kind b)) → Was edition kind (λ bytes. made_at (asking kind) (ballot_at bytes))
asking_was edition kind made = was edition kind ballot_at ballot IsBallot (asking kind) ballot_field made

refusing_was : (edition kind : ℕ) → ((x : BallotModel × BallotModel) → IsBallot x.0 × IsBallot x.1 → (body (refusing kind x) ≡ ballot x.0 ++ ballot x.1) × IsOf edition kind (refusing kind x)) → Was edition kind (λ bytes. made_at (refusing kind) (two_ballots_at bytes))
refusing_was edition kind made = was edition kind two_ballots_at (λ x. ballot x.0 ++ ballot x.1) (λ x. IsBallot x.0 × IsBallot x.1) (refusing kind) two_ballots_field made

ending_was : (edition kind : ℕ) → ((x : BallotModel × Counts) → IsBallot x.0 × IsShort x.1 → (body (ending kind x) ≡ ballot x.0 ++ version x.1) × IsOf edition kind (ending kind x)) → Was edition kind (λ bytes. made_at (ending kind) (done_at bytes))
ending_was edition kind made = was edition kind done_at (λ x. ballot x.0 ++ version x.1) (λ x. IsBallot x.0 × IsShort x.1) (ending kind) done_field made

placing_was : (edition kind : ℕ) → ((x : BallotModel × (ℕ × ℕ)) → IsBallot x.0 × (IsShard x.1.0 × IsNumber x.1.1) → (body (placing kind x) ≡ placed x.0 x.1.0 x.1.1) × IsOf edition kind (placing kind x)) → Was edition kind (λ bytes. made_at (placing kind) (placed_at bytes))
placing_was edition kind made = was edition kind placed_at (λ x. placed x.0 x.1.0 x.1.1) (λ x. IsBallot x.0 × (IsShard x.1.0 × IsNumber x.1.1)) (placing kind) placed_field made

carrying_was : (edition kind : ℕ) → ((x : List ℕ × ℕ) → IsEntityIn edition x.0 × (x.1 < 2 ^ 64) → (body (carrying kind x) ≡ payload x.0 x.1) × IsOf edition kind (carrying kind x)) → Was edition kind (λ bytes. made_at (carrying kind) (payload_at edition bytes))
carrying_was edition kind made = was edition kind (payload_at edition) (λ x. payload x.0 x.1) (λ x. IsEntityIn edition x.0 × (x.1 < 2 ^ 64)) (carrying kind) (payload_field edition) made

naming_was : (edition kind : ℕ) → ((u : UniqueModel) → IsUnique u → (body (naming kind u) ≡ process u) × IsOf edition kind (naming kind u)) → Was edition kind (λ bytes. made_at (naming kind) (unique_at bytes))
naming_was edition kind made = was edition kind unique_at process IsUnique (naming kind) unique_field made

-- of so many numbers, from the first on
abbrev Each : (ℕ → Type 0) → ℕ → ℕ → Type 0
Each P first zero = ⊤
Each P first (suc many) = P first × Each P (suc first) many

each_at : (P : ℕ → Type 0) (first many : ℕ) → Each P first many → (n : ℕ) → first ≤ n → n < first + many → P n
each_at P first zero each n above below = absurd (omega (arith, above, below))
each_at P first (suc many) each n above below = elim (cases_lt first n) [
  | inl less ↦ each_at P (suc first) many each.1 n (omega (arith, less)) (omega (arith, below))
  | inr le ↦ let same : first ≡ n = omega (arith, le, above) in subst P same each.0
]

each_kind : (edition : ℕ) → Each (λ kind. Was edition kind (body_at edition kind)) 1 25
unfolding body_at early_body_at late_body_at
each_kind edition = (
  bare_was edition 1 Join (refl, (tt, refl)),
  (
    told_was edition 2 (λ g is. (refl, (is, refl))),
    (
      told_was edition 3 (λ g is. (refl, (is, refl))),
      (
        bare_was edition 4 Heartbeat (refl, (tt, refl)),
        (
          bare_was edition 5 HeartbeatReply (refl, (tt, refl)),
          (
            bare_was edition 6 ExitingConfirmed (refl, (tt, refl)),
            (
              asking_was edition 7 (λ b is. (refl, (is, refl))),
              (
                was edition 8 granted_at (λ x. ballot x.0 ++ (version x.1.0 ++ reports x.1.1)) (λ x. IsBallot x.0 × (IsShort x.1.0 × AreReports x.1.1)) granting granted_field (λ x is. (refl, (is, refl))),
                (
                  refusing_was edition 9 (λ x is. (refl, (is, refl))),
                  (
                    refusing_was edition 10 (λ x is. (refl, (is, refl))),
                    (
                      asking_was edition 11 (λ b is. (refl, (is, refl))),
                      (
                        ending_was edition 12 (λ x is. (refl, (is, refl))),
                        (
                          ending_was edition 13 (λ x is. (refl, (is, refl))),
                          (
                            was edition 14 get_home_at (λ x. ballot x.0 ++ shard x.1) (λ x. IsBallot x.0 × IsShard x.1) seeking get_home_field (λ x is. (refl, (is, refl))),
                            (
                              was edition 15 home_at (λ x. ballot x.0 ++ (shard x.1.0 ++ process x.1.1)) (λ x. IsBallot x.0 × (IsShard x.1.0 × IsUnique x.1.1)) homing home_field (λ x is. (refl, (is, refl))),
                              (
                                placing_was edition 16 (λ x is. (refl, (is, refl))),
                                (
                                  placing_was edition 17 (λ x is. (refl, (is, refl))),
                                  (
                                    placing_was edition 18 (λ x is. (refl, (is, refl))),
                                    (
                                      placing_was edition 19 (λ x is. (refl, (is, refl))),
                                      (
                                        placing_was edition 20 (λ x is. (refl, (is, refl))),
                                        (
                                          placing_was edition 21 (λ x is. (refl, (is, refl))),
                                          (
                                            carrying_was edition 22 (λ x is. (refl, (is, refl))),
                                            (
                                              naming_was edition 23 (λ u is. (refl, (is, refl))),
                                              (
                                                naming_was edition 24 (λ u is. (refl, (is, refl))),
                                                (
                                                  carrying_was edition 25 (λ x is. (refl, (is, refl))),
                                                  tt,
                                                ),
                                              ),
                                            ),
                                          ),
                                        ),
                                      ),
                                    ),
                                  ),
                                ),
                              ),
                            ),
                          ),
                        ),
                      ),
                    ),
                  ),
                ),
              ),
            ),
          ),
        ),
      ),
    ),
  ),
)

pub body_was : (edition kind : ℕ) → 1 ≤ kind → kind ≤ 25 → Was edition kind (body_at edition kind)
body_was edition kind above below = each_at (λ kind. Was edition kind (body_at edition kind)) 1 25 (each_kind edition) kind above (omega (arith, below))

pub body_field : (edition kind : ℕ) → 1 ≤ kind → kind ≤ 25 → IsField (body_at edition kind) body (IsOf edition kind)
body_field edition kind above below = record {
  again = λ m rest is. ap (λ (k : ℕ). body_at edition k (body m ++ rest)) (sym is.1) ∙ body_again edition m rest is.0;
  was = body_was edition kind above below;
}
