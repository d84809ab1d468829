-- A node that gives up its own side of a partition (Akka's Split Brain Resolver, "Static Quorum").
use Rattle.std.specs.Prelude.{◌≡◌, ℕ, ◌<◌, false, IsTrue}
use Rattle.ak_downing.specs.Downing.{reachable_addresses}
use Rattle.ak_settings.specs.declared.settings.Strategy.TheVariants.{StaticQuorum}
use Rattle.ak_membership.specs.Membership.{may_count}
use Rattle.ak_membership.specs.Tick.{observes, decides}
use Rattle.ak_node.specs.declared.node.State.{State}
use Rattle.ak_node.specs.Node.{known, me_of, is_member}

-- At a tick of this node the resolver decides, by static-quorum, and the node reaches fewer addresses with the role than the
-- quorum: it is a member, its own row says already who is silent, the resolver's turn has come, and a number is left for the
-- update.
pub record GivesUp (n : State) : Type 0 where
  pub member : IsTrue (is_member n)
  pub observed : observes n.membership ≡ false
  pub decides : IsTrue (decides n.membership)
  pub counts : IsTrue (may_count n.membership)
  pub quorum : ℕ
  pub strategy : n.membership.settings.strategy ≡ StaticQuorum quorum
  pub lacks : reachable_addresses n.membership.settings.role (known n).view (me_of n) < quorum
