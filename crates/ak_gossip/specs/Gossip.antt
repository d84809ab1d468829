-- What a node knows of its cluster, and what it makes of a gossip that comes (Akka's Cluster Specification, "Gossip" and
-- "Gossip Convergence").
use Rattle.std.specs.Prelude.{◌≡◌, ℕ, ◌+◌, ◌<◌, ◌≤◌, nat_lt, IsTrue, Bool, is_some, List, Some, Result, Ok, Err, if◌then◌else◌, refl, ⊤}
use Rattle.std.specs.FinMap as map
use Rattle.std.specs.Coded.{Coded, code_by, coded×, coded_ℕ}
use Rattle.ak_address.specs.Unique.{UniqueModel, coded_unique}
use Rattle.ak_address.specs.Uniques.{UniqueSet, no_one, has, with_one, those, union}
use Rattle.ak_clock.specs.declared.version.TheConstants.{BOUND}
use Rattle.ak_clock.specs.declared.version.Relation as clock
use Rattle.ak_clock.specs.Version.{Counts, count, IsVersion, merged, bumped, relation}
use Rattle.ak_member.specs.declared.effect.Effect.{Effect}
use Rattle.ak_member.specs.declared.standing.Standing.{Standing}
use Rattle.ak_member.specs.declared.standing.Standing.TheVariants.{Member, Buried}
use Rattle.ak_member.specs.declared.status.Status.{Status}
use Rattle.ak_member.specs.declared.status.Status.TheVariants.{Joining, WeaklyUp, Up, Leaving, Exiting, Down}
use Rattle.ak_member.specs.Standing.{Standings, is_member, merged_standings}
use Rattle.ak_member.specs.View.{View, Row, coded_view, coded_uniques, empty_view, merged_views, after_effects, after_entry, observed}
use Rattle.ak_gossip.specs.declared.gossip.Received as received
use Rattle.ak_gossip.specs.declared.gossip.GossipFault as fault

-- the entries that a node has seen, what they show, and which members are known to know exactly this
pub record GossipState : Type 0 where
  pub version : Counts
  pub view : View
  pub seen : UniqueSet

-- what is known is stored as its three parts
abbrev pub coded_gossip : Coded GossipState
coded_gossip =
    code_by (Counts × (View × UniqueSet))
    (coded× (map.code coded_unique coded_ℕ) (coded× coded_view coded_uniques))
    (λ g. (g.version, (g.view, g.seen)))
    (λ p. record { version = p.0; view = p.1.0; seen = p.1.1 })
    (λ _. refl)

-- nothing is known
abbrev pub nothing_known : GossipState
nothing_known = record { version = map.empty; view = empty_view; seen = no_one }

-- a gossip may hold this many processes, members and tombstones together
abbrev pub most_uniques : ℕ
most_uniques = 128

-- a process is a member or a tombstone
abbrev pub is_known : Standings → UniqueModel → Bool
is_known s who = is_some (map.get s who)

-- the number of a member: none while it is Joining or WeaklyUp, one from Up on; a member that went Down may have none
abbrev pub IsNumber : Status → ℕ → Type 0
IsNumber Joining number = number ≡ 0
IsNumber WeaklyUp number = number ≡ 0
IsNumber Up number = (1 ≤ number) × (number ≤ BOUND)
IsNumber Leaving number = (1 ≤ number) × (number ≤ BOUND)
IsNumber Exiting number = (1 ≤ number) × (number ≤ BOUND)
IsNumber Down number = number ≤ BOUND

abbrev pub IsStanding : Standing → Type 0
IsStanding (Member status number) = IsNumber status number
IsStanding (Buried confirmed) = ⊤

-- a row of an observer in a gossip: its number is of an entry that is counted, and everybody in it is known
pub record IsRow (g : GossipState) (observer : UniqueModel) (row : Row) : Type 0 where
  pub observer_known : IsTrue (is_known g.view.standings observer)
  pub numbered : 1 ≤ row.number
  pub counted : row.number ≤ count g.version observer
  pub subjects_known : (subject : UniqueModel) → IsTrue (has row.subjects subject) → IsTrue (is_known g.view.standings subject)

-- The counts of a gossip are those of a version; every process in it is a member or a tombstone, those that have seen it
-- are members, and there are not too many.
pub record IsGossip (g : GossipState) : Type 0 where
  pub version : IsVersion g.version
  pub counted : (who : UniqueModel) → 1 ≤ count g.version who → IsTrue (is_known g.view.standings who)
  pub standings : (who : UniqueModel) (standing : Standing) → map.get g.view.standings who ≡ Some standing → IsStanding standing
  pub rows : (observer : UniqueModel) (row : Row) → map.get g.view.rows observer ≡ Some row → IsRow g observer row
  pub seen : (who : UniqueModel) → IsTrue (has g.seen who) → IsTrue (is_member g.view.standings who)
  pub few : map.len g.view.standings ≤ most_uniques

-- A node is among those that have seen what it knows, where it is a member of that.
abbrev pub seen_by : UniqueModel → GossipState → GossipState
seen_by me g = if is_member g.view.standings me then record g { seen = with_one g.seen me } else g

-- The author makes its next entry: only the author has seen what is known then.
abbrev pub updated : UniqueModel → List Effect → GossipState → GossipState
updated author effects g =
    record {
      version = bumped g.version author;
      view = after_entry author (count g.version author + 1) effects g.view;
      seen = with_one no_one author;
    }

-- an entry that the author may make
pub record MayUpdate (author : UniqueModel) (effects : List Effect) (g : GossipState) : Type 0 where
  pub below_bound : count g.version author < BOUND
  -- the author is a member then
  pub stays : IsTrue (is_member (after_effects effects g.view.standings) author)
  -- it observes nobody but members and tombstones
  pub subjects : (subjects : UniqueSet) (who : UniqueModel) → observed effects ≡ Some subjects → IsTrue (has subjects who) → IsTrue (is_known (after_effects effects g.view.standings) who)
  pub standings : (who : UniqueModel) (standing : Standing) → map.get (after_effects effects g.view.standings) who ≡ Some standing → IsStanding standing
  pub few : map.len (after_effects effects g.view.standings) ≤ most_uniques

-- Both know the same: who has seen it there and is a member here has seen it here.
abbrev pub same : GossipState → GossipState → GossipState
same own incoming = record own { seen = union own.seen (those incoming.seen (is_member own.view.standings)) }

-- Each knows what the other does not: nobody is known to have seen both.
abbrev pub both : GossipState → GossipState → GossipState
both own incoming =
    record {
      version = merged own.version incoming.version;
      view = merged_views own.view incoming.view;
      seen = no_one;
    }

-- a gossip that is not refused, by how the own version is related to that which comes
abbrev pub accepted : clock.Relation → GossipState → GossipState → received.Received × GossipState
accepted clock.TheVariants.Same own incoming = (received.TheVariants.Same, same own incoming)
accepted clock.TheVariants.Before own incoming = (received.TheVariants.Newer, incoming)
accepted clock.TheVariants.After own incoming = (received.TheVariants.Older, own)
accepted clock.TheVariants.Concurrent own incoming = (received.TheVariants.Merged, both own incoming)

-- what is older changes nothing; of all else the node has seen what it knows then
abbrev pub marked_seen : UniqueModel → received.Received × GossipState → received.Received × GossipState
marked_seen me (received.TheVariants.Older, g) = (received.TheVariants.Older, g)
marked_seen me (received.TheVariants.Same, g) = (received.TheVariants.Same, seen_by me g)
marked_seen me (received.TheVariants.Newer, g) = (received.TheVariants.Newer, seen_by me g)
marked_seen me (received.TheVariants.Merged, g) = (received.TheVariants.Merged, seen_by me g)

-- What the node makes of a gossip. Nobody else counts this node's entries: a count of them above its own is refused.
abbrev pub receive : UniqueModel → GossipState → GossipState → Result (received.Received × GossipState) fault.GossipFault
receive me own incoming =
    let union = map.len (merged_standings own.view.standings incoming.view.standings) in
    if nat_lt (count own.version me) (count incoming.version me)
    then Err (fault.TheVariants.ForeignCount (count own.version me) (count incoming.version me))
    else (if nat_lt most_uniques union
    then Err (fault.TheVariants.TooManyUniques union)
    else Ok (marked_seen me (accepted (relation own.version incoming.version) own incoming)))
