use Rattle.std.proofs.Common.{sym, ◌∙◌}
use Rattle.ak_member.specs.Standing.{is_member}
use Rattle.ak_gossip.proofs.SeenLemmas.{there_already}
use Rattle.ak_gossip.proofs.gossip.has_member.Goals as goal

pub returns-then-contains : goal.returns-then-contains
returns-then-contains c = λ _. there_already c.args.seen.now c.args.who.now (is_member c.args.members.now c.args.who.now) (sym c.contains.ensures ∙ c.if-contains.true)
