use Rattle.std.proofs.Common.{◌∷◌, Option, Ok, codes, sym, subst}
use Rattle.ak_options.specs.declared.command.Command.{Command}
use Rattle.ak_options.specs.Answers.{Answers}
use Rattle.ak_options.proofs.CommandLemmas.{only_sweep}
use Rattle.ak_options.proofs.read.sweep.Goals as goal

pub returns-in_err-first : goal.returns-in_err-first
returns-in_err-first c =
    subst (λ (r : Option Command). Answers (codes "sweep" ∷ c.args.options.now) (Ok r)) (sym c.from_residual.ensures)
    (only_sweep c.args.options.now (λ pairs are first count events workers says. c.in_err-first.ensures pairs are first says.first_once))

pub returns-in_err-count : goal.returns-in_err-count
returns-in_err-count c =
    subst (λ (r : Option Command). Answers (codes "sweep" ∷ c.args.options.now) (Ok r)) (sym c.from_residual-in_err-count.ensures)
    (only_sweep c.args.options.now (λ pairs are first count events workers says. c.in_err-count.ensures pairs are count says.count_once))

pub returns-in_err-events : goal.returns-in_err-events
returns-in_err-events c =
    subst (λ (r : Option Command). Answers (codes "sweep" ∷ c.args.options.now) (Ok r)) (sym c.from_residual-in_err-events.ensures)
    (only_sweep c.args.options.now (λ pairs are first count events workers says. c.in_err-events.ensures pairs are events says.events_once))

pub returns-in_err-workers : goal.returns-in_err-workers
returns-in_err-workers c =
    subst (λ (r : Option Command). Answers (codes "sweep" ∷ c.args.options.now) (Ok r)) (sym c.from_residual-in_err-workers.ensures)
    (only_sweep c.args.options.now (λ pairs are first count events workers says. c.in_err-workers.ensures pairs are workers says.workers_at_most_once))
