-- How far a view is from convergence, in numbers that are kept when it changes: how many members have not seen it, how many
-- block it, and how often each address is used (this project's choice; Akka asks its members each time).
use Rattle.std.specs.Prelude.{ℕ, ◌+◌, ◌-◌, nat_lt, Bool, not, ◌&&◌, List, length, Option, None, Some, if◌then◌else◌, fold, refl}
use Rattle.std.specs.List.{filter}
use Rattle.std.specs.FinMap as map
use Rattle.std.specs.Coded.{Coded, code_by, coded×, coded_ℕ}
use Rattle.ak_address.specs.Unique.{AddressModel, UniqueModel, address_cmp, coded_address}
use Rattle.ak_address.specs.Uniques.{UniqueSet, has}
use Rattle.ak_member.specs.declared.status.Status.{Status}
use Rattle.ak_member.specs.Standing.{members_of}
use Rattle.ak_member.specs.Age.{counts, role_addresses}
use Rattle.ak_member.specs.View.{View}
use Rattle.ak_reach.specs.Unreachable.{unreachable_members}
use Rattle.ak_converge.specs.declared.tally.Stand.{Stand}
use Rattle.ak_converge.specs.Convergence.{is_passed_over}

-- ---- uses of addresses
-- how many uses each address has that is in use, from 1 on
abbrev pub Uses : Type 0
Uses = map.FinMap address_cmp ℕ

abbrev pub uses_or_none : Option ℕ → ℕ
uses_or_none None = 0
uses_or_none (Some uses) = uses

abbrev pub uses_at : Uses → AddressModel → ℕ
uses_at u at = uses_or_none (map.get u at)

abbrev pub with_use : Uses → AddressModel → Uses
with_use u at = map.insert u at (uses_at u at + 1)

-- an address that is used no more is not there
abbrev pub without_use : Uses → AddressModel → Uses
without_use u at = if nat_lt 1 (uses_at u at) then map.insert u at (uses_at u at - 1) else map.remove u at

-- one use for each time that an address stands in a list
abbrev pub uses_of : List AddressModel → Uses
uses_of addresses = fold with_use map.empty addresses

-- ---- the numbers
pub record TallyModel : Type 0 where
  pub missing : ℕ
  pub blocking : ℕ
  pub uses : Uses

abbrev pub coded_uses : Coded Uses
coded_uses = map.code coded_address coded_ℕ

-- a tally is stored as its three parts
abbrev pub coded_tally : Coded TallyModel
coded_tally = code_by (ℕ × (ℕ × Uses)) (coded× coded_ℕ (coded× coded_ℕ coded_uses)) (λ t. (t.missing, (t.blocking, t.uses))) (λ p. record { missing = p.0; blocking = p.1.0; uses = p.1.1 }) (λ _. refl)

abbrev pub nothing_tallied : TallyModel
nothing_tallied = record { missing = 0; blocking = 0; uses = map.empty }

abbrev pub one_if : Bool → ℕ
one_if b = if b then 1 else 0

-- it counts, and has not seen the view
abbrev pub is_missing : Stand → Bool
is_missing s = s.counted && not s.seen

-- a member that stood so in the numbers stands otherwise
abbrev pub changed : Stand → Stand → TallyModel → TallyModel
changed before after t =
    record t {
      missing = t.missing - one_if (is_missing before) + one_if (is_missing after);
      blocking = t.blocking - one_if before.blocking + one_if after.blocking;
    }

-- ---- the numbers of a view
-- a member counts, and is not among those that have seen the view
abbrev pub misses : UniqueSet → UniqueModel × (Status × ℕ) → Bool
misses seen member = counts member.1.0 && not (has seen member.0)

-- a member is unreachable, and is not passed over
abbrev pub blocks : UniqueSet → UniqueModel × (Status × ℕ) → Bool
blocks lost member = has lost member.0 && not (is_passed_over member.1.0)

abbrev pub missing_in : View → UniqueSet → ℕ
missing_in v seen = length (filter (misses seen) (members_of v.standings))

abbrev pub blocking_in : View → ℕ
blocking_in v = length (filter (blocks (unreachable_members v)) (members_of v.standings))

-- the tally of a view that these have seen; of addresses, of those that have the role
abbrev pub tally_of : List AddressModel → View → UniqueSet → TallyModel
tally_of role v seen = record { missing = missing_in v seen; blocking = blocking_in v; uses = uses_of (role_addresses role v.standings) }
