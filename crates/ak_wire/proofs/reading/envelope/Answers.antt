use Rattle.std.proofs.lemmas.Result.{err_from_is_err_and}
use Rattle.ak_wire.proofs.Numbered.{header_begins}
use Rattle.ak_wire.proofs.reading.envelope.Goals as goal

pub returns-in_err-version-clause-memory : goal.returns-in_err-version-clause-memory
returns-in_err-version-clause-memory c =
    let p = err_from_is_err_and c.from_residual.result c.from_residual.ensures.1 in
    rw (p.1, p.2) (header_begins c.args.fields.now c.in_err-version.field-0.0 c.in_err-version.ensures)
