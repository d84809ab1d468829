use Rattle.std.proofs.Common.{◌≡◌, ◌+◌, ◌++◌, length, drop}
use Rattle.ak_report.specs.ActionText.{actions_text}
use Rattle.ak_wire.specs.Wire.{sent}
use Rattle.ak_report.proofs.report.append_actions.Given as goal

-- by the actions that are left, since the number of a packet goes by the sends before it; and it stays below the end of its type
abbrev pub invariant-actions : goal.invariant-actions
invariant-actions l = record {
  printed : l.out.items ++ actions_text l.gossip l.number (drop l.action-index l.actions) ≡ l.initial.out.items ++ actions_text l.gossip l.first_packet l.actions;
  counted : l.number + length (sent (drop l.action-index l.actions)) ≡ l.first_packet + length (sent l.actions);
}
