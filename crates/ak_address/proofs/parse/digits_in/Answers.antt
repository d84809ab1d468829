use Rattle.std.proofs.Common.{◌≡◌, ◌+◌, ◌*◌, ◌^◌, ◌<◌, arith}
use Rattle.std.specs.Str.Parse.{AllDigits, digits_value}
use Rattle.std.proofs.lemmas.List.{take_all}
use Rattle.std.proofs.lemmas.Str.Parse.{digit_at}
use Rattle.ak_address.proofs.Reading.{one_more, worth_grows}
use Rattle.ak_address.proofs.parse.digits_in.Goals as goal
use Rattle.ak_address.proofs.parse.digits_in.Goals.{then-byte-lt48-via-then-byte-lt48, then-byte-lt48-via-else-byte-lt48+then-byte-gt57}

pub returns-then-byte-lt48 : goal.returns-then-byte-lt48
returns-then-byte-lt48 c =
    λ good.
    let digit = digit_at c.args.bytes.now c.digits.byte-index good.0 c.digits-test.true in
    elim c.then-byte-lt48.branch [ then-byte-lt48-via-then-byte-lt48 w ↦ omega arith | then-byte-lt48-via-else-byte-lt48+then-byte-gt57 w ↦ omega arith ]

pub returns-in_default : goal.returns-in_default
returns-in_default c =
    λ good.
    let grows = worth_grows c.args.bytes.now c.digits.byte-index c.digits-test.true c.if-byte-lt48.false c.if-byte-gt57.false in
    let fits : c.digits.value * 10 < 2 ^ 64 = omega arith in
    c.in_default.ensures {u = tt} fits

pub returns-in_default-checked_add : goal.returns-in_default-checked_add
returns-in_default-checked_add c =
    λ good.
    let grows = worth_grows c.args.bytes.now c.digits.byte-index c.digits-test.true c.if-byte-lt48.false c.if-byte-gt57.false in
    let tens = c.in-Some.ensures {u = tt} in
    let fits : c.in-Some.tens + c.from.result < 2 ^ 64 = omega arith in
    c.in_default-checked_add.ensures {u = tt} fits

pub digits-preserved : goal.digits-preserved
digits-preserved c =
    let more = one_more c.args.bytes.now c.digits.byte-index c.digits-test.true c.digits.invariant.all c.if-byte-lt48.false c.if-byte-gt57.false in
    let tens = c.in-Some.ensures {u = tt} in
    let next = c.in-Some-checked_add.ensures {u = tt} in
    record { all = more.0; worth = omega arith; fits = omega arith }

pub returns : goal.returns
returns c =
    let whole = take_all c.digits.byte-index c.args.bytes.now (omega arith) in
    let all : AllDigits 10 c.args.bytes.now = rw whole at c.digits.invariant.all in
    let worth : c.digits.value ≡ digits_value 10 c.args.bytes.now = rw whole at c.digits.invariant.worth in
    ((all, omega arith), worth)
