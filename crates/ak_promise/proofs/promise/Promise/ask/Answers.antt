use Rattle.std.proofs.Common.{sym, ap, ◌∙◌, subst}
use Rattle.ak_promise.specs.Promise.{PromiseModel, Answers, answer_after}
use Rattle.ak_promise.proofs.PromiseLemmas.{answers_meant}
use Rattle.ak_promise.proofs.promise.Promise.ask.Goals as goal

pub returns-clause-meaning : goal.returns-clause-meaning
returns-clause-meaning c =
    let p : PromiseModel = record { last = c.self.inside.last; released = c.self.inside.released; floor = c.self.inside.floor } in
    subst (λ q. Answers c.answer_after-answer.result q c.args.ballot c.args.holder_finished) c.self.view_is
    (subst (λ a. Answers a p c.args.ballot c.args.holder_finished)
    (sym (c.answer_after-answer.ensures ∙ ap (λ o. answer_after o c.self.inside.released c.args.ballot c.args.holder_finished) c.as_ref.ensures.value))
    (answers_meant p c.args.ballot c.args.holder_finished))
