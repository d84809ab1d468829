use Rattle.ak_address.proofs.Pairs.{is_equal}
use Rattle.ak_gossip.proofs.PartsPlaces.{found_next}
use Rattle.ak_gossip.proofs.cursor.Cursor.row.Goals as goal

pub returns-then-is : goal.returns-then-is
returns-then-is c =
    found_next c.args.rows.now c.args.self.now.row c.in-Some.next.now c.args.who.now c.in-Some.row.now c.in-Some.ensures
    (is_equal _ _ c.is.ensures.value c.if-is.true)
