use Rattle.std.proofs.Common.{◌≡◌, ◌^◌, ◌<◌, take}
use Rattle.std.specs.Str.Parse.{AllDigits, digits_value}
use Rattle.ak_address.proofs.parse.digits_in.Given as goal

-- the bytes so far are digits, and value is what they are worth
abbrev pub invariant-digits : goal.invariant-digits
invariant-digits l = record {
  all : AllDigits 10 (take l.byte-index l.bytes);
  worth : l.value ≡ digits_value 10 (take l.byte-index l.bytes);
  fits : l.value < 2 ^ 64;
}
