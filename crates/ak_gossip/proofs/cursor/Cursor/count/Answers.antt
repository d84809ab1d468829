use Rattle.std.proofs.Common.{ap, unwrap_or}
use Rattle.ak_address.proofs.Pairs.{is_equal}
use Rattle.ak_gossip.proofs.PartsPlaces.{found_next}
use Rattle.ak_gossip.proofs.cursor.Cursor.count.Goals as goal

pub returns-then-is : goal.returns-then-is
returns-then-is c =
    ap (λ o. unwrap_or o 0)
    (found_next c.args.version.now c.args.self.now.count c.in-Some.next.now c.args.who.now c.in-Some.count c.in-Some.ensures.pair
    (is_equal _ _ c.is.ensures.value c.if-is.true))
