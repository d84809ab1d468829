use Rattle.std.proofs.Common.{arith, ◌∷◌, [], length, ap}
use Rattle.ak_wire.proofs.Sending.{sent_most}
use Rattle.ak_report.proofs.report.append_actions.Goals as goal

-- no more packets are sent than there are actions
pub next_packet-number-requires : goal.next_packet-number-requires
next_packet-number-requires c =
    let one = sent_most (c.action-item.result ∷ []) in
    let all = sent_most c.args.actions.now in
    omega (arith, c.requires, one, all, c.actions.invariant.counted, ap length c.as_slice-action-items.ensures)
