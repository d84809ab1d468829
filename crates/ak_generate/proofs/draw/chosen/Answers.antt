use Rattle.std.proofs.Common.{sym, ap, ◌∙◌, ◌%◌, slice_get}
use Rattle.ak_address.specs.Uniques.{in_order}
use Rattle.ak_generate.proofs.GenerateLemmas.{nobody_chosen, somebody_chosen, somebody_copied}
use Rattle.ak_generate.proofs.draw.chosen.Goals as goal

pub returns-then-many-eq0-clause-value : goal.returns-then-many-eq0-clause-value
returns-then-many-eq0-clause-value c = sym (nobody_chosen c.args.word c.args.running.now (sym c.len-many.ensures ∙ c.if-many-eq0.true))

pub returns-clause-some : goal.returns-clause-some
returns-clause-some c some =
    let who = somebody_chosen c.args.word c.args.running.now some in
    somebody_copied (λ who. who.now) c.at.result who.0
    (c.at.ensures ∙ ap (λ many. slice_get (in_order c.args.running.now) (c.args.word % many)) c.len-many.ensures ∙ who.1)
