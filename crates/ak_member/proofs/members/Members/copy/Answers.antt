use Rattle.std.proofs.Common.{true≢false, sym, ◌∙◌}
use Rattle.ak_member.proofs.SlotLemmas.{no_slot_known}
use Rattle.ak_member.proofs.members.Members.copy.Goals as goal

pub returns-in_err-slots-clause-memory : goal.returns-in_err-slots-clause-memory
returns-in_err-slots-clause-memory c none = absurd (true≢false (sym (c.in_err-slots.ensures.memory (no_slot_known c.self.inside.slots.entries (c.self.view_is ∙ none)))))
