use Rattle.std.proofs.lemmas.Result.{err_from_is_err_and}
use Rattle.ak_clock.specs.Version.{Counts}
use Rattle.ak_field.specs.Fields.{length_at}
use Rattle.ak_field.proofs.Numbered.{a_length, takes_none}
use Rattle.ak_field.proofs.fields.Fields.version.Goals as goal

pub returns-in_err-many-clause-memory : goal.returns-in_err-many-clause-memory
returns-in_err-many-clause-memory c =
    let p = err_from_is_err_and c.from_residual.result c.from_residual.ensures.1 in
    rw (p.1, p.2) (takes_none Counts c.in_err-many.field-0.0 (length_at 0 128 c.args.self.now) (length_at 0 128 c.args.self.now) (a_length 0 128 c.args.self.now) c.in_err-many.ensures.read)
