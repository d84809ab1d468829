use Rattle.std.proofs.Common.{ℕ, List}
use Rattle.std.proofs.lemmas.Result.{err_from_is_err_and}
use Rattle.ak_field.specs.Fields.{length_at, entity_at}
use Rattle.ak_field.specs.Reading.{bytes_at}
use Rattle.ak_field.proofs.Numbered.{a_length, some_bytes, takes_none}
use Rattle.ak_field.proofs.fields.Fields.entity.Goals as goal

pub returns-in_err-length-clause-memory : goal.returns-in_err-length-clause-memory
returns-in_err-length-clause-memory c =
    let p = err_from_is_err_and c.from_residual.result c.from_residual.ensures.1 in
    rw (p.1, p.2) (takes_none (List ℕ) c.in_err-length.field-0.0 (length_at 1 c.most_entity.result c.args.self.now) (entity_at c.args.version c.args.self.now) (a_length 1 c.most_entity.result c.args.self.now) c.in_err-length.ensures.read)

pub returns-in_err-name-clause-memory : goal.returns-in_err-name-clause-memory
returns-in_err-name-clause-memory c =
    let p = err_from_is_err_and c.from_residual-in_err-name.result c.from_residual-in_err-name.ensures.1 in
    rw (p.1, p.2) (takes_none (List ℕ) c.in_err-name.field-0.0 (bytes_at c.from.result c.length.new.self) (entity_at c.args.version c.args.self.now) (some_bytes c.from.result c.length.new.self) c.in_err-name.ensures)
