use Rattle.std.proofs.Common.{sym, ap, ◌∙◌}
use Rattle.ak_promise.specs.Promise.{is_some_ballot}
use Rattle.ak_promise.proofs.PromiseLemmas.{last_is, last_is_not}
use Rattle.ak_promise.proofs.promise.Promise.release.Goals as goal

pub returns-in_err-let_go-clause-other : goal.returns-in_err-let_go-clause-other
returns-in_err-let_go-clause-other c other =
    absurd (other (sym (ap (λ p. p.last) c.self.view_is)
    ∙ last_is c.self.inside.last c.args.ballot.now (sym (c.is_ballot.ensures ∙ ap (λ o. is_some_ballot o c.args.ballot.now) c.as_ref.ensures.value) ∙ c.if-is_ballot.true)))

pub returns-then-is_ballot-clause-meaning : goal.returns-then-is_ballot-clause-meaning
returns-then-is_ballot-clause-meaning c =
    sym (ap (λ p. p.last) c.self.view_is)
    ∙ last_is c.self.inside.last c.args.ballot.now (sym (c.is_ballot.ensures ∙ ap (λ o. is_some_ballot o c.args.ballot.now) c.as_ref.ensures.value) ∙ c.if-is_ballot.true)

pub returns-clause-meaning : goal.returns-clause-meaning
returns-clause-meaning c at =
    last_is_not c.self.inside.last c.args.ballot.now (sym (c.is_ballot.ensures ∙ ap (λ o. is_some_ballot o c.args.ballot.now) c.as_ref.ensures.value) ∙ c.if-is_ballot.false)
    (ap (λ p. p.last) c.self.view_is ∙ at)
