use Rattle.std.proofs.Common.{◌∙◌}
use Rattle.ak_member.specs.View.{View}
use Rattle.ak_select.proofs.SelectLemmas.{peer_seen}
use Rattle.ak_select.proofs.select.peer.Goals as goal

pub returns-in-None : goal.returns-in-None
returns-in-None c =
    let v : View = record { standings = c.args.members.now; rows = c.args.rows.now } in
    c.chosen-in-None.ensures ∙ peer_seen c.args.word v c.args.seen.now c.args.me.now (c.in-None.ensures {u = tt})
