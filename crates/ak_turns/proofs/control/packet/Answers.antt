use Rattle.std.proofs.Common.{rules}
use Rattle.ak_turns.proofs.ControlLemmas.{asks_anybody}
use Rattle.ak_turns.proofs.control.packet.Goals as goal

pub returns-clause-valid : goal.returns-clause-valid
returns-clause-valid c =
    record { from = search rules; to = c.to.invariant; uid = asks_anybody c.args.say c.in_ok-message.field-0 c.in_ok-message.ensures.value; body = c.in_ok-message.ensures.valid }
