use Rattle.std.proofs.Common.{rules, length, sym, ap, ◌∙◌}
use Rattle.ak_accepted.proofs.AcceptedLemmas.{length-events}
use Rattle.ak_accepted.proofs.accepted.Accepted.len.Goals as goal

pub returns : goal.returns
returns c =
    c.len.ensures ∙ search rules ∙ sym (length-events c.self.inside.parts.list.items c.self.inside.forms.items c.self.invariant) ∙ ap length c.self.view_is
