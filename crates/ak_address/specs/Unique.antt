-- Who a process of the cluster is, and the order of processes (Akka's Cluster Specification, "Membership":
-- a node's unique id is its host, port and uid; addresses are ordered by host and then by port, this project
-- compares hosts by bytes).
use Rattle.std.specs.Prelude.{ℕ, ◌^◌, ◌<◌, ◌≤◌, Bool, ◌&&◌, ◌||◌, ◌==◌, nat_le, List, length, IsTrue, refl}
use Rattle.std.specs.List.{list_all}
use Rattle.std.specs.Coded.{Coded, code_by, coded×, coded_ℕ, coded_list}
use Rattle.std.specs.Ordering.{nat_cmp, ordering_then}
use Rattle.std.specs.Cmp.Lexicographic.{slice_cmp}
use Rattle.std.specs.declared.cmp.Ordering.{Ordering}

-- where a process is reached
pub record AddressModel : Type 0 where
  pub host : List ℕ
  pub port : ℕ

-- one process: a process that starts again at the same address has another uid
pub record UniqueModel : Type 0 where
  pub address : AddressModel
  pub uid : ℕ

-- a letter, a digit, `-`, `.` or `_`
abbrev pub is_host_byte : ℕ → Bool
is_host_byte b =
    (nat_le 97 b && nat_le b 122) || (nat_le 65 b && nat_le b 90) || (nat_le 48 b && nat_le b 57) || b == 45 || b == 46 || b == 95

-- 1 to 64 bytes of a host
pub record IsHost (bytes : List ℕ) : Type 0 where
  pub not_empty : 1 ≤ length bytes
  pub short : length bytes ≤ 64
  pub letters : IsTrue (list_all is_host_byte bytes)

pub record IsAddress (a : AddressModel) : Type 0 where
  pub host : IsHost a.host
  pub port : 1 ≤ a.port
  pub port_fits : a.port < 2 ^ 16

pub record IsUnique (u : UniqueModel) : Type 0 where
  pub address : IsAddress u.address
  pub uid : 1 ≤ u.uid
  pub uid_fits : u.uid < 2 ^ 63

-- by the bytes of the host, then by the port
abbrev pub address_cmp : AddressModel → AddressModel → Ordering
address_cmp a b = ordering_then (slice_cmp nat_cmp a.host b.host) (nat_cmp a.port b.port)

-- by address, then by uid
abbrev pub unique_cmp : UniqueModel → UniqueModel → Ordering
unique_cmp u v = ordering_then (address_cmp u.address v.address) (nat_cmp u.uid v.uid)

-- an address is stored as the pair of its fields
abbrev pub coded_address : Coded AddressModel
coded_address = code_by (List ℕ × ℕ) (coded× (coded_list coded_ℕ) coded_ℕ) (λ a. (a.host, a.port)) (λ p. record { host = p.0; port = p.1 }) (λ _. refl)

abbrev pub coded_unique : Coded UniqueModel
coded_unique = code_by (AddressModel × ℕ) (coded× coded_address coded_ℕ) (λ u. (u.address, u.uid)) (λ p. record { address = p.0; uid = p.1 }) (λ _. refl)
