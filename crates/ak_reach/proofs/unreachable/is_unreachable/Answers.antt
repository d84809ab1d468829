use Rattle.std.proofs.Common.{false, ◌∙◌}
use Rattle.ak_member.specs.View.{View}
use Rattle.ak_reach.proofs.UnreachableLaws.{answer_means, answer_if_observed, answer_if_not, same_there}
use Rattle.ak_reach.proofs.unreachable.is_unreachable.Goals as goal

pub returns-then-is_observed-clause-value : goal.returns-then-is_observed-clause-value
returns-then-is_observed-clause-value c =
    answer_if_observed (record { standings = c.args.members.now; rows = c.args.rows.now }) c.args.who.now c.is_some.result c.if-is_observed.ensures.value
    (c.is_some.ensures ∙ same_there _ _ _ _ c.get.ensures)

pub returns-then-is_observed-clause-meaning : goal.returns-then-is_observed-clause-meaning
returns-then-is_observed-clause-meaning c =
    let v : View = record { standings = c.args.members.now; rows = c.args.rows.now } in
    answer_means v c.args.who.now c.is_some.result
    (answer_if_observed v c.args.who.now c.is_some.result c.if-is_observed.ensures.value (c.is_some.ensures ∙ same_there _ _ _ _ c.get.ensures))

pub returns-clause-value : goal.returns-clause-value
returns-clause-value c = answer_if_not (record { standings = c.args.members.now; rows = c.args.rows.now }) c.args.who.now c.if-is_observed.ensures.value

pub returns-clause-meaning : goal.returns-clause-meaning
returns-clause-meaning c =
    let v : View = record { standings = c.args.members.now; rows = c.args.rows.now } in
    answer_means v c.args.who.now false (answer_if_not v c.args.who.now c.if-is_observed.ensures.value)
