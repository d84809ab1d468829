use Rattle.std.proofs.Common.{sym, ap, ◌∙◌}
use Rattle.ak_address.specs.Uniques.{has}
use Rattle.ak_address.proofs.OrderLemmas.{unique_exact}
use Rattle.ak_address.proofs.Pairs.{is_equal}
use Rattle.ak_address.proofs.UniquesLaws.{has_at}
use Rattle.ak_gossip.proofs.cursor.Cursor.has_seen.Goals as goal

pub returns-then-is : goal.returns-then-is
returns-then-is c =
    sym (has_at c.args.seen.now c.args.self.now.seen c.in-Some.next.now (sym c.in-Some.ensures))
    ∙ ap (has c.args.seen.now) (unique_exact c.in-Some.next.now c.args.who.now (is_equal _ _ c.is.ensures.value c.if-is.true))
