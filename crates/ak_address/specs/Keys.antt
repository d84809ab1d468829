-- Addresses and processes as keys of a hash table: what tells them apart, and what a hash is fed of it (this project's choice).
use Rattle.std.specs.Prelude.{ℕ, List, [], ◌∷◌, ◌++◌, length, nat_le, if◌then◌else◌}
use Rattle.std.specs.Hash as fed
use Rattle.ak_address.specs.Start.{start_of}
use Rattle.ak_address.specs.Unique.{AddressModel, UniqueModel}

abbrev pub address_key : AddressModel → List ℕ
address_key a = a.port ∷ a.host

abbrev pub unique_key : UniqueModel → List ℕ
unique_key u = u.uid ∷ address_key u.address

-- of up to seven bytes the number that tells all of them, and else the bytes
abbrev pub fed_of_text : List ℕ → List (List ℕ)
fed_of_text bytes = if nat_le (length bytes) 7 then fed.u64 (start_of bytes) else bytes ∷ []

abbrev pub fed_of_address : List ℕ → List (List ℕ)
fed_of_address [] = []
fed_of_address (port ∷ host) = fed_of_text host ++ fed.u16 port

abbrev pub fed_of_unique : List ℕ → List (List ℕ)
fed_of_unique [] = []
fed_of_unique (uid ∷ address) = fed_of_address address ++ fed.u64 uid
