use Rattle.ak_membership.proofs.RestLemmas.{rests_heard}
use Rattle.ak_membership.proofs.membership.Membership.on_heard.Goals as goal

pub invariant_of-self : goal.invariant_of-self
invariant_of-self c = (
  record { itself = c.self.invariant.0.itself; settled_before = c.self.invariant.0.settled_before },
  λ is. rests_heard c.self.inside.state c.args.from.now c.heard.new.self c.heard.ensures.after (c.self.invariant.1 is),
  c.self.invariant.2,
)
