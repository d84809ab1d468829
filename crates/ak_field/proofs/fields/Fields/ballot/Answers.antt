use Rattle.std.proofs.lemmas.Result.{err_from_is_err_and}
use Rattle.ak_clock.specs.declared.version.TheConstants.{BOUND}
use Rattle.ak_promise.specs.Ballot.{BallotModel}
use Rattle.ak_field.specs.Fields.{number_at, ballot_at}
use Rattle.ak_field.proofs.Numbered.{a_number, takes_none}
use Rattle.ak_field.proofs.fields.Fields.ballot.Goals as goal

pub returns-in_err-term-clause-memory : goal.returns-in_err-term-clause-memory
returns-in_err-term-clause-memory c =
    let p = err_from_is_err_and c.from_residual.result c.from_residual.ensures.1 in
    rw (p.1, p.2) (takes_none BallotModel c.in_err-term.field-0.0 (number_at 1 BOUND c.args.self.now) (ballot_at c.args.self.now) (a_number 1 BOUND c.args.self.now) c.in_err-term.ensures.read)
