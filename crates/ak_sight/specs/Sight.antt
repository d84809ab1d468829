-- What a view shows of a member: its status, and whether it is unreachable. Up numbers and tombstones do not count. A resolver
-- decides only when all of this stood still for a while (Akka's Split Brain Resolver, "stable-after").
use Rattle.std.specs.Prelude.{ℕ, ◌==◌, Bool, true, false, ◌&&◌, ◌||◌, not, Option, Some, None, option_map, option_to_list, slice_get}
use Rattle.std.specs.List.{list_any}
use Rattle.std.specs.FinMap as map
use Rattle.ak_address.specs.Unique.{UniqueModel}
use Rattle.ak_address.specs.Uniques.{has}
use Rattle.ak_member.specs.declared.status.Status.{Status}
use Rattle.ak_member.specs.declared.standing.Standing.{Standing}
use Rattle.ak_member.specs.Standing.{as_member, member_of, member_pairs, members_of, rank}
use Rattle.ak_member.specs.View.{View}
use Rattle.ak_reach.specs.Unreachable.{unreachable_members}
use Rattle.ak_gossip.specs.declared.gossip.Received.{Received}
use Rattle.ak_gossip.specs.declared.gossip.Received.TheVariants.{Same, Newer, Older, Merged}

-- of a process that is no member nothing
abbrev pub sight : View → UniqueModel → Option (Status × Bool)
sight v who = option_map (λ m. (m.0, has (unreachable_members v) who)) (member_of (map.get v.standings who))

-- the same of a process that stands so in the view
abbrev pub shown : View → UniqueModel → Standing → Option (Status × Bool)
shown v who standing = option_map (λ m. (m.0, has (unreachable_members v) who)) (as_member standing)

abbrev pub is_same_reach : Bool → Bool → Bool
is_same_reach true other = other
is_same_reach false other = not other

abbrev pub is_same_sight : Option (Status × Bool) → Option (Status × Bool) → Bool
is_same_sight None None = true
is_same_sight None (Some other) = false
is_same_sight (Some one) None = false
is_same_sight (Some one) (Some other) = rank one.0 == rank other.0 && is_same_reach one.1 other.1

-- some member of a view is shown otherwise by another view
abbrev pub is_otherwise : View → View → UniqueModel → Bool
is_otherwise v w who = not (is_same_sight (sight v who) (sight w who))

abbrev pub shows_otherwise : View → View → Bool
shows_otherwise v w = list_any (λ m. is_otherwise v w m.0) (members_of v.standings)

-- at a pair stands a member that another view shows otherwise
abbrev pub is_otherwise_at : View → View → ℕ → Bool
is_otherwise_at v w pair = list_any (λ m. is_otherwise v w m.0) (member_pairs (option_to_list (slice_get (map.entries v.standings) pair)))

-- a view moved, from one to another: they do not show the same members, each the same
abbrev pub has_moved : View → View → Bool
has_moved v w = shows_otherwise v w || shows_otherwise w v

-- a gossip that was received so may show other members than those that were known
abbrev pub is_news : Received → Bool
is_news Same = false
is_news Newer = true
is_news Older = false
is_news Merged = true
