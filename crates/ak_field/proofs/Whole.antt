-- Each field is read as it is spelled.
use Rattle.std.proofs.Common.{◌≡◌, ℕ, zero, suc, ◌+◌, ◌-◌, ◌^◌, ◌<◌, ◌≤◌, Bool, true, false, ◌&&◌, ◌==◌, nat_le, IsTrue, List, [], ◌∷◌, ◌++◌, length, take, drop, if◌then◌else◌, Result, Ok, refl, sym, ap, subst, ◌∙◌, arith}
use Rattle.std.specs.List.{list_all}
use Rattle.std.specs.Int.{w16, w64, from_be_bytes}
use Rattle.std.proofs.lemmas.Bool.Decides.{nat_tests}
use Rattle.std.proofs.lemmas.List.{take_at, drop_at, take-append-drop, length-append, length-take, length-drop}
use Rattle.ak_address.specs.Unique.{UniqueModel, IsUnique, is_host_byte}
use Rattle.ak_address.proofs.BoolLemmas.{both_true}
use Rattle.ak_clock.specs.declared.version.TheConstants.{BOUND}
use Rattle.ak_promise.specs.Ballot.{BallotModel, IsBallot}
use Rattle.ak_field.specs.declared.fault.WireFault.{WireFault}
use Rattle.ak_field.specs.declared.fault.WireFault.TheVariants.{Magic, Version, Kind, Count, Range}
use Rattle.ak_field.specs.Reading.{◌>>=◌, bytes_at, byte_at, wide_at, checked}
use Rattle.ak_field.specs.Ranges.{is_from, is_process, IsProcess, most_entity, IsEntityIn, IsVersionOfFormat, IsHeader, IsShard}
use Rattle.ak_shard_id.specs.Division.{is_entity_byte}
use Rattle.ak_field.specs.Spelling.{byte, two_bytes, eight_bytes, magic, format, header, process, ballot, shard, flag, entity}
use Rattle.ak_field.specs.Fields.{length_at, number_at, shard_at, flag_at, process_of, process_bytes_at, process_at, unique_at, ballot_at, entity_at, is_magic, header_at}
use Rattle.ak_field.specs.Laws.{IsBytes, IsField}
use Rattle.ak_field.proofs.Combined.{later_bytes, first_bytes, checked_field, made_field, first_field, valid_field}
use Rattle.ak_field.proofs.Small.{bytes_field, byte_field, wide16, wide64, wide_field}

-- ---- tests
at_most : (a b : ℕ) → nat_le a b ≡ true → a ≤ b
at_most a b e = grind (arith, nat_tests)

is_at_most : (a b : ℕ) → a ≤ b → nat_le a b ≡ true
is_at_most a b le = grind (arith, nat_tests)

pub in_range : (least most n : ℕ) → least ≤ n → n ≤ most → is_from least most n ≡ true
in_range least most n above below = rw (is_at_most least n above, is_at_most n most below) refl

pub range_of : (least most n : ℕ) → is_from least most n ≡ true → (least ≤ n) × (n ≤ most)
range_of least most n e = let b = both_true (nat_le least n) (nat_le n most) e in (at_most least n b.0, at_most n most b.1)

-- ---- lengths and numbers
abbrev pub Ranges : ℕ → ℕ → ℕ → Type 0
Ranges least most n = (least ≤ n) × (n ≤ most)

pub length_field : (least most : ℕ) → most < 256 → IsField (length_at least most) byte (Ranges least most)
unfolding length_at
length_field least most fits =
    checked_field Count (is_from least most) byte_at byte (λ n. n < 256) (Ranges least most) byte_field
    (λ n v. (omega (arith, v.1), in_range least most n v.0 v.1))
    (λ n lt e. range_of least most n e)

pub number_field : (least most : ℕ) → most < 2 ^ 64 → IsField (number_at least most) eight_bytes (Ranges least most)
unfolding number_at
number_field least most fits =
    checked_field Range (is_from least most) (wide_at w64) eight_bytes (λ n. n < 2 ^ 64) (Ranges least most) (wide_field w64 (2 ^ 64) wide64)
    (λ n v. (omega (arith, v.1), in_range least most n v.0 v.1))
    (λ n lt e. range_of least most n e)

pub shard_field : IsField shard_at shard IsShard
unfolding shard_at
shard_field =
    checked_field Range (λ n. nat_le n 999) (wide_at w16) two_bytes (λ n. n < 2 ^ 16) IsShard (wide_field w16 (2 ^ 16) wide16)
    (λ n v. (omega (arith, v), is_at_most n 999 v))
    (λ n lt e. at_most n 999 e)

flag_again : (b : Bool) → (if b then 1 else 0) == 1 ≡ b
flag_again true = refl
flag_again false = refl

flag_small : (b : Bool) → (if b then 1 else 0) ≤ 1
flag_small true = omega arith
flag_small false = omega arith

flag_back : (n : ℕ) → n ≤ 1 → (if n == 1 then 1 else 0) ≡ n
flag_back zero le = refl
flag_back (suc zero) le = refl
flag_back (suc (suc n)) le = absurd (omega arith)

pub flag_field : IsField flag_at flag (λ _. Unit {0})
unfolding flag_at
flag_field =
    made_field (λ bytes. checked Range (λ n. nat_le n 1) (byte_at bytes)) byte (λ n. n ≤ 1) (λ n. n == 1) (λ b. if b then 1 else 0) (λ _. Unit {0})
    (checked_field Range (λ n. nat_le n 1) byte_at byte (λ n. n < 256) (λ n. n ≤ 1) byte_field (λ n v. (omega (arith, v), is_at_most n 1 v)) (λ n lt e. at_most n 1 e))
    (λ b _. (flag_small b, flag_again b))
    (λ n le fits. (flag_back n le, tt))

-- ---- processes
abbrev named : List ℕ → ℕ → ℕ → UniqueModel
named host port uid = record { address = record { host = host; port = port }; uid = uid }

renamed : (h i : List ℕ) (p q u v : ℕ) → h ≡ i → p ≡ q → u ≡ v → named h p u ≡ named i q v
renamed h i p q u v a b c = rw (a, b, c) refl

-- what follows the length of the host
abbrev parts : UniqueModel → List ℕ
parts u = u.address.host ++ (two_bytes u.address.port ++ eight_bytes u.uid)

record Fits (host : ℕ) (u : UniqueModel) : Type 0 where
  pub len : length u.address.host ≡ host
  pub port : u.address.port < 2 ^ 16
  pub uid : u.uid < 2 ^ 64

parts_length : (host : ℕ) (u : UniqueModel) → Fits host u → length (parts u) ≡ host + 10
parts_length host u fits =
    omega (arith, fits.len, length-append u.address.host (two_bytes u.address.port ++ eight_bytes u.uid), length-append (two_bytes u.address.port) (eight_bytes u.uid), wide16.len u.address.port, wide64.len u.uid)

parts_again : (host : ℕ) (u : UniqueModel) → Fits host u → process_of host (parts u) ≡ u
parts_again host u fits =
    let two = two_bytes u.address.port in
    let eight = eight_bytes u.uid in
    let rest : drop host (parts u) ≡ two ++ eight = drop_at u.address.host (two ++ eight) host fits.len in
    renamed (take host (parts u)) u.address.host (from_be_bytes w16 (take 2 (drop host (parts u)))) u.address.port (from_be_bytes w64 (drop 2 (drop host (parts u)))) u.uid
    (take_at u.address.host (two ++ eight) host fits.len)
    (ap (λ (t : List ℕ). from_be_bytes w16 (take 2 t)) rest ∙ ap (λ (t : List ℕ). from_be_bytes w16 t) (take_at two eight 2 (wide16.len u.address.port)) ∙ wide16.again u.address.port fits.port)
    (ap (λ (t : List ℕ). from_be_bytes w64 (drop 2 t)) rest ∙ ap (λ (t : List ℕ). from_be_bytes w64 t) (drop_at two eight 2 (wide16.len u.address.port)) ∙ wide64.again u.uid fits.uid)

parts_back : (host : ℕ) (bytes : List ℕ) → length bytes ≡ host + 10 → IsBytes bytes → (parts (process_of host bytes) ≡ bytes) × Fits host (process_of host bytes)
parts_back host bytes len fits =
    let rest = drop host bytes in
    let rest_fits : IsBytes rest = later_bytes (take host bytes) rest (subst IsBytes (sym (take-append-drop host bytes)) fits) in
    let two_fits : IsBytes (take 2 rest) = first_bytes (take 2 rest) (drop 2 rest) (subst IsBytes (sym (take-append-drop 2 rest)) rest_fits) in
    let eight_fits : IsBytes (drop 2 rest) = later_bytes (take 2 rest) (drop 2 rest) (subst IsBytes (sym (take-append-drop 2 rest)) rest_fits) in
    let rest_len : length rest ≡ 10 = omega (arith, length-drop host bytes) in
    let two_len : length (take 2 rest) ≡ 2 = omega (arith, length-take 2 rest) in
    let eight_len : length (drop 2 rest) ≡ 8 = omega (arith, length-drop 2 rest) in
    let two = wide16.back (take 2 rest) two_len two_fits in
    let eight = wide64.back (drop 2 rest) eight_len eight_fits in
    let numbers : two_bytes (from_be_bytes w16 (take 2 rest)) ++ eight_bytes (from_be_bytes w64 (drop 2 rest)) ≡ rest = ap (λ (t : List ℕ). t ++ eight_bytes (from_be_bytes w64 (drop 2 rest))) two ∙ ap (λ (t : List ℕ). take 2 rest ++ t) eight ∙ take-append-drop 2 rest in (
      ap (λ (t : List ℕ). take host bytes ++ t) numbers ∙ take-append-drop host bytes,
      record {
        len = omega (arith, length-take host bytes);
        port = wide16.below (take 2 rest) two_fits;
        uid = wide64.below (drop 2 rest) eight_fits;
      },
    )

process_bytes_field : (host : ℕ) → IsField (process_bytes_at host) parts (Fits host)
unfolding process_bytes_at
process_bytes_field host =
    made_field (bytes_at (host + 10)) (λ bytes. bytes) (λ bytes. length bytes ≡ host + 10) (process_of host) parts (Fits host) (bytes_field (host + 10))
    (λ u fits. (parts_length host u fits, parts_again host u fits))
    (λ bytes len fits. parts_back host bytes len fits)

passes_process : (least most : ℕ) (u : UniqueModel) → IsProcess least most u → is_process least most u ≡ true
passes_process least most u is = rw (is.address.host.letters, is_at_most 1 u.address.port is.address.port, in_range least most u.uid is.uid is.uid_fits) refl

process_from : (least most host : ℕ) (u : UniqueModel) → Ranges 1 64 host → Fits host u → is_process least most u ≡ true → IsProcess least most u
process_from least most host u range fits e =
    let a = both_true (list_all is_host_byte u.address.host) (nat_le 1 u.address.port && is_from least most u.uid) e in
    let b = both_true (nat_le 1 u.address.port) (is_from least most u.uid) a.1 in
    let c = range_of least most u.uid b.1 in
    record {
      address = record {
        host = record { not_empty = omega (arith, fits.len, range.0); short = omega (arith, fits.len, range.1); letters = a.0 };
        port = at_most 1 u.address.port b.0;
        port_fits = fits.port;
      };
      uid = c.0;
      uid_fits = c.1;
    }

pub process_field : (least most : ℕ) → most < 2 ^ 64 → IsField (process_at least most) process (IsProcess least most)
unfolding process_at
process_field least most bound =
    let After : ℕ → UniqueModel → Type 0 = λ host u. Fits host u × IsProcess least most u in
    let rest : (host : ℕ) → Ranges 1 64 host → IsField (λ bytes. checked Range (is_process least most) (process_bytes_at host bytes)) parts (After host) =
    (λ host range. checked_field Range (is_process least most) (process_bytes_at host) parts (Fits host) (After host) (process_bytes_field host)
    (λ u v. (v.0, passes_process least most u v.1))
    (λ u fits e. (fits, process_from least most host u range fits e))) in
    first_field (length_at 1 64) byte (Ranges 1 64) (λ u. length u.address.host) (λ host bytes. checked Range (is_process least most) (process_bytes_at host bytes)) parts After (IsProcess least most)
    (length_field 1 64 (omega arith)) rest
    (λ u is. ((is.address.host.not_empty, is.address.host.short), (record { len = refl; port = is.address.port_fits; uid = omega (arith, is.uid_fits) }, is)))
    (λ host u range v. (v.0.len, v.1))

pub unique_field : IsField unique_at process IsUnique
unique_field =
    valid_field unique_at process (IsProcess 1 (2 ^ 63 - 1)) IsUnique (process_field 1 (2 ^ 63 - 1) (omega arith))
    (λ u is. record { address = is.address; uid = is.uid; uid_fits = omega (arith, is.uid_fits) })
    (λ u is. record { address = is.address; uid = is.uid; uid_fits = omega (arith, is.uid_fits) })

-- ---- ballots
pub ballot_field : IsField ballot_at ballot IsBallot
unfolding ballot_at
ballot_field =
    let After : ℕ → BallotModel → Type 0 = λ term b. (b.term ≡ term) × IsUnique b.unique in
    let rest : (term : ℕ) → Ranges 1 BOUND term → IsField (λ bytes. unique_at bytes >>= λ who. Ok (record { term = term; unique = who.0 }, who.1)) (λ b. process b.unique) (After term) =
    (λ term range. made_field unique_at process IsUnique (λ who. record { term = term; unique = who }) (λ b. b.unique) (After term) unique_field
    (λ b v. (v.1, ap (λ (n : ℕ). record { term = n; unique = b.unique }) (sym v.0)))
    (λ who is fits. (refl, (refl, is)))) in
    first_field (number_at 1 BOUND) eight_bytes (Ranges 1 BOUND) (λ b. b.term) (λ term bytes. unique_at bytes >>= λ who. Ok (record { term = term; unique = who.0 }, who.1)) (λ b. process b.unique) After IsBallot
    (number_field 1 BOUND (omega arith)) rest
    (λ b is. ((is.term, is.term_fits), (refl, is.unique)))
    (λ term b range v. (v.0, record { unique = v.1; term = omega (arith, v.0, range.0); term_fits = omega (arith, v.0, range.1) }))

-- ---- names of entities
few_entity : (version : ℕ) → most_entity version < 256
few_entity version = go (version == 1)
  where
    go : (b : Bool) → (if b then 64 else 97) < 256
    go true = omega arith
    go false = omega arith

pub entity_field : (version : ℕ) → IsField (entity_at version) entity (IsEntityIn version)
unfolding entity_at
entity_field version =
    let most = most_entity version in
    let After : ℕ → List ℕ → Type 0 = λ n name. (length name ≡ n) × IsTrue (list_all is_entity_byte name) in
    let rest : (n : ℕ) → Ranges 1 most n → IsField (λ bytes. checked Range (list_all is_entity_byte) (bytes_at n bytes)) (λ name. name) (After n) =
    (λ n range. checked_field Range (list_all is_entity_byte) (bytes_at n) (λ name. name) (λ name. length name ≡ n) (After n) (bytes_field n) (λ name v. v) (λ name len e. (len, e))) in
    first_field (length_at 1 most) byte (Ranges 1 most) (λ name. length name) (λ n bytes. checked Range (list_all is_entity_byte) (bytes_at n bytes)) (λ name. name) After (IsEntityIn version)
    (length_field 1 most (few_entity version)) rest
    (λ name is. ((is.not_empty, is.short), (refl, is.printable)))
    (λ n name range v. (v.0, record { not_empty = omega (arith, v.0, range.0); short = omega (arith, v.0, range.1); printable = v.1 }))

-- ---- the first five bytes
eq_is : (a b : ℕ) → (a == b) ≡ true → a ≡ b
eq_is a b e = grind (arith, nat_tests)

magic_is : (bytes : List ℕ) → length bytes ≡ 3 → is_magic bytes ≡ true → bytes ≡ magic
magic_is [] len e = absurd cc
magic_is (a ∷ []) len e = absurd cc
magic_is (a ∷ b ∷ []) len e = absurd cc
magic_is (a ∷ b ∷ c ∷ []) len e =
    let x = both_true (a == 65) (b == 75 && c == 67) e in
    let y = both_true (b == 75) (c == 67) x.1 in
    rw (eq_is a 65 x.0, eq_is b 75 y.0, eq_is c 67 y.1) refl
magic_is (a ∷ b ∷ c ∷ d ∷ rest) len e = absurd (omega (arith, len))

magic_field : IsField (λ bytes. checked Magic is_magic (bytes_at 3 bytes)) (λ bytes. bytes) (λ bytes. bytes ≡ magic)
magic_field =
    checked_field Magic is_magic (bytes_at 3) (λ bytes. bytes) (λ bytes. length bytes ≡ 3) (λ bytes. bytes ≡ magic) (bytes_field 3)
    (λ bytes is. subst (λ (b : List ℕ). (length b ≡ 3) × (is_magic b ≡ true)) (sym is) (refl, refl))
    magic_is

version_of_format_field : IsField (λ bytes. checked Version (is_from 1 format) (byte_at bytes)) byte IsVersionOfFormat
version_of_format_field =
    checked_field Version (is_from 1 format) byte_at byte (λ n. n < 256) IsVersionOfFormat byte_field
    (λ n is. (let last = is.last in omega (arith, last), in_range 1 format n is.first is.last))
    (λ n lt e. let r = range_of 1 format n e in record { first = r.0; last = r.1 })

kind_field : IsField (λ bytes. checked Kind (is_from 1 25) (byte_at bytes)) byte (Ranges 1 25)
kind_field =
    checked_field Kind (is_from 1 25) byte_at byte (λ n. n < 256) (Ranges 1 25) byte_field
    (λ n v. (omega (arith, v.1), in_range 1 25 n v.0 v.1))
    (λ n lt e. range_of 1 25 n e)

pub header_field : IsField header_at header IsHeader
unfolding header_at
header_field =
    let kind : List ℕ → Result (ℕ × List ℕ) WireFault = λ bytes. checked Kind (is_from 1 25) (byte_at bytes) in
    let with_kind : ℕ → List ℕ → Result ((ℕ × ℕ) × List ℕ) WireFault = λ version bytes. kind bytes >>= λ k. Ok ((version, k.0), k.1) in
    let after_magic : List ℕ → Result ((ℕ × ℕ) × List ℕ) WireFault = λ bytes. checked Version (is_from 1 format) (byte_at bytes) >>= λ version. with_kind version.0 version.1 in
    let After : ℕ → ℕ × ℕ → Type 0 = λ version x. (x.0 ≡ version) × Ranges 1 25 x.1 in
    let last : (version : ℕ) → IsVersionOfFormat version → IsField (with_kind version) (λ x. byte x.1) (After version) =
    (λ version is. made_field kind byte (Ranges 1 25) (λ k. (version, k)) (λ x. x.1) (After version) kind_field
    (λ x v. (v.1, ap (λ (n : ℕ). (n, x.1)) (sym v.0)))
    (λ k v fits. (refl, (refl, v)))) in
    let second : IsField after_magic (λ x. byte x.0 ++ byte x.1) IsHeader =
    first_field (λ bytes. checked Version (is_from 1 format) (byte_at bytes)) byte IsVersionOfFormat (λ x. x.0) with_kind (λ x. byte x.1) After IsHeader
    version_of_format_field last (λ x v. (v.0, (refl, v.1))) (λ n x is v. (v.0, (subst IsVersionOfFormat (sym v.0) is, v.1))) in
    first_field (λ bytes. checked Magic is_magic (bytes_at 3 bytes)) (λ bytes. bytes) (λ bytes. bytes ≡ magic) (λ x. magic) (λ b bytes. after_magic bytes) (λ x. byte x.0 ++ byte x.1) (λ b x. IsHeader x) IsHeader
    magic_field (λ b is. second) (λ x v. (refl, v)) (λ b x is v. (sym is, v))
