use Rattle.std.proofs.Common.{length, option_map, refl, ap, ◌∙◌}
use Rattle.std.specs.Option.{option_copied}
use Rattle.ak_world.specs.WorldContracts.{doubled_of}
use Rattle.ak_sweeps.proofs.LineLaws.{keeps_apart}
use Rattle.ak_sweeps.proofs.RunLoop.{told, some_copied}
use Rattle.ak_sweeps.proofs.run.line_of.Goals as goal

pub returns-clause-line : goal.returns-clause-line
returns-clause-line c =
    let p = c.in_ok-world.field-0 in
    told c.args.seed c.args.events p
    (record { seed = c.args.seed; steps = p.steps; packets = c.packets.result; history = c.len.result; kept = c.is_kept.result; double = c.is_some.result })
    c.margin.result (option_map doubled_of (option_copied c.first_double.result)) c.in_ok-world.ensures refl refl
    c.packets.ensures (c.len.ensures ∙ ap length c.history.ensures) c.margin.ensures c.is_kept.ensures c.first_double.ensures
    (c.is_some.ensures ∙ some_copied doubled_of c.first_double.result)

pub returns-clause-apart : goal.returns-clause-apart
returns-clause-apart c = keeps_apart c.args.seed c.args.events _ (returns-clause-line c)
