use Rattle.std.proofs.Common.{sym, ap, ◌∙◌, subst}
use Rattle.ak_settled.specs.Settled.{after_tick}
use Rattle.ak_settled.specs.Ticks.{IsKept, settled_of}
use Rattle.ak_settled.proofs.SettledLemmas.{kept_ticked, parts_ticked}
use Rattle.ak_settled.proofs.settled.Settled.tick.Goals as goal

pub invariant_of-self : goal.invariant_of-self
invariant_of-self c =
    subst (IsKept c.self.inside.exists c.self.inside.version c.self.inside.members) (sym c.raise_all.ensures)
    (kept_ticked _ _ _ c.self.inside.exists c.self.invariant c.args.margin)

pub returns : goal.returns
returns c =
    ap (settled_of c.self.inside.exists c.self.inside.version c.self.inside.members) c.raise_all.ensures
    ∙ parts_ticked _ _ _ c.self.inside.exists c.self.invariant c.args.margin
    ∙ ap (after_tick c.args.margin) c.self.view_is
