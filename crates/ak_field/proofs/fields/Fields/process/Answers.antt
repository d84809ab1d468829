use Rattle.std.proofs.Common.{ℕ}
use Rattle.std.proofs.lemmas.Result.{err_from_is_err_and}
use Rattle.ak_address.specs.declared.address.Address.{Address}
use Rattle.ak_field.specs.Fields.{length_at, process_at}
use Rattle.ak_field.proofs.Numbered.{a_length, takes_none}
use Rattle.ak_field.proofs.fields.Fields.process.Goals as goal

pub returns-in_err-host-clause-memory : goal.returns-in_err-host-clause-memory
returns-in_err-host-clause-memory c =
    let p = err_from_is_err_and c.from_residual.result c.from_residual.ensures.1 in
    rw (p.1, p.2) (takes_none (Address × ℕ) c.in_err-host.field-0.0 (length_at 1 64 c.args.self.now) (process_at c.args.least c.args.most c.args.self.now) (a_length 1 64 c.args.self.now) c.in_err-host.ensures.read)
