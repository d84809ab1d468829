use Rattle.std.proofs.Common.{List, ℕ, subst}
use Rattle.ak_options.specs.Requests.{SpellsRequest}
use Rattle.ak_options.proofs.CommandLemmas.{only_ctl, ctl_err, one_value}
use Rattle.ak_options.proofs.read.ctl.Goals as goal

pub returns-in_err-to : goal.returns-in_err-to
returns-in_err-to c =
    let spelt = c.in_err-to.ensures in
    ctl_err c.args.options.now c.in-Some.to.now c.in-Some-only_value.say.now spelt.0 spelt.1 (c.are_options.ensures.0 c.if-not-are_options.false) c.in-Some.ensures
    c.in-Some-only_value.ensures spelt.2 spelt.3 c.from_residual.result c.from_residual.ensures.0

pub returns-in-None : goal.returns-in-None
returns-in-None c =
    let none = rw c.in-None.is at c.in_ok-to.ensures in
    only_ctl c.args.options.now (λ pairs are to say says.
    none say (subst (λ (t : List ℕ). SpellsRequest t say)
    (one_value _ pairs says.text c.in-Some-only_value.say.now says.say_once (c.in-Some-only_value.ensures pairs are)) says.say_spelled))
