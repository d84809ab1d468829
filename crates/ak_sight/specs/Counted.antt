-- The tally of a gossip, kept with what is known of roles: of each process whether its address has the role. And what a gossip
-- that was received so leaves of them.
use Rattle.std.specs.Prelude.{◌≡◌, Bool, false, List, [], Option, None, Some, map, IsTrue, ⊤, refl}
use Rattle.std.specs.Coded.{Coded, code_by, coded×, coded_bool, coded_list}
use Rattle.std.specs.FinMap as finmap
use Rattle.ak_address.specs.Distinct.{is_among}
use Rattle.ak_address.specs.Unique.{AddressModel, UniqueModel}
use Rattle.ak_address.specs.Uniques.{has}
use Rattle.ak_converge.specs.Tally.{TallyModel, coded_tally, nothing_tallied, tally_of}
use Rattle.ak_member.specs.declared.standing.Standing.{Standing}
use Rattle.ak_member.specs.declared.standing.Standing.TheVariants.{Member, Buried}
use Rattle.ak_member.specs.Age.{counts, role_pairs}
use Rattle.ak_member.specs.Standing.{member_pairs}
use Rattle.ak_gossip.specs.declared.gossip.Received.{Received}
use Rattle.ak_gossip.specs.declared.gossip.Received.TheVariants.{Same, Newer, Older, Merged}
use Rattle.ak_gossip.specs.Gossip.{GossipState}

-- the numbers of a view, and of each process that is known whether it has the role, in their order
pub record KeptTallyModel : Type 0 where
  pub numbers : TallyModel
  pub roles : List Bool

abbrev pub coded_kept_tally : Coded KeptTallyModel
coded_kept_tally = code_by (TallyModel × List Bool) (coded× coded_tally (coded_list coded_bool)) (λ t. (t.numbers, t.roles)) (λ p. record { numbers = p.0; roles = p.1 }) (λ _. refl)

-- nobody is known
abbrev pub nothing_kept : KeptTallyModel
nothing_kept = record { numbers = nothing_tallied; roles = [] }

abbrev pub roles_among : List AddressModel → List (UniqueModel × Standing) → List Bool
roles_among role pairs = map (λ pair. is_among role pair.0.address) pairs

abbrev pub role_or_not : Option Bool → Bool
role_or_not None = false
role_or_not (Some has) = has

-- of addresses those with the role are in use
abbrev pub kept_tally_of : List AddressModel → GossipState → KeptTallyModel
kept_tally_of role g = record { numbers = tally_of role g.view g.seen; roles = roles_among role (finmap.entries g.view.standings) }

-- a tally is that of what is known
abbrev pub IsTallyOf : List AddressModel → KeptTallyModel → GossipState → Type 0
IsTallyOf role t g = t ≡ kept_tally_of role g

-- the addresses with the role of counted members, in the order of processes
abbrev pub addresses_among : List AddressModel → List (UniqueModel × Standing) → List AddressModel
addresses_among role pairs = map (λ pair. pair.0.address) (role_pairs role (member_pairs pairs))

-- a process that stands so counts
abbrev pub is_counted : Standing → Bool
is_counted (Member status number) = counts status
is_counted (Buried confirmed) = false

-- all that the uses of addresses and the roles come from: where a process is, and whether it counts
abbrev pub mark : UniqueModel × Standing → AddressModel × Bool
mark pair = (pair.0.address, is_counted pair.1)

-- the view stays, and who had seen it has
pub record IsSeenMore (old new : GossipState) : Type 0 where
  pub view : new.view ≡ old.view
  pub seen : (who : UniqueModel) → IsTrue (has old.seen who) → IsTrue (has new.seen who)

-- where both knew the same, more members have seen it; what is older changes nothing; of the rest nothing is said
abbrev pub IsAsReceived : Received → GossipState → GossipState → Type 0
IsAsReceived Same old new = IsSeenMore old new
IsAsReceived Newer old new = ⊤
IsAsReceived Older old new = new ≡ old
IsAsReceived Merged old new = ⊤
