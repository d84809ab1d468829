-- The address that a text spells, by its parts: the bytes before the first `:`, and those after it (this project's choice).
use Rattle.std.specs.Prelude.{ℕ, ◌^◌, Bool, ◌&&◌, nat_le, nat_lt, List, length, Option, Some, None, if◌then◌else◌}
use Rattle.std.specs.List.{list_all}
use Rattle.std.specs.Char.{digit_value}
use Rattle.std.specs.Str.Parse.{digits_value}
use Rattle.ak_address.specs.Unique.{AddressModel, is_host_byte}
use Rattle.ak_address.specs.Spelling.{before_byte, after_byte}

-- 1 to 64 bytes of a host
unfoldable pub is_host : List ℕ → Bool
is_host bytes = nat_le 1 (length bytes) && (nat_le (length bytes) 64 && list_all is_host_byte bytes)

-- 1 to 20 digits that are a number from 1 to 65535
unfoldable pub is_port : List ℕ → Bool
is_port digits =
    nat_le 1 (length digits) && (nat_le (length digits) 20 && (list_all (λ c. nat_lt (digit_value c) 10) digits && (nat_le 1 (digits_value 10 digits) && nat_lt (digits_value 10 digits) (2 ^ 16))))

-- the address, where both are good
unfoldable pub spelled_address : List ℕ → Option AddressModel
spelled_address text =
    if is_host (before_byte 58 text) && is_port (after_byte 58 text)
    then Some (record { host = before_byte 58 text; port = digits_value 10 (after_byte 58 text) })
    else None
