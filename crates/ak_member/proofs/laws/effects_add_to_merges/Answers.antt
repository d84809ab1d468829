use Rattle.ak_member.proofs.ViewLaws.{effects_merge_one, effects_merge_both}
use Rattle.ak_member.proofs.laws.effects_add_to_merges.Goals as goal

pub returns : goal.returns
returns c = record { one = effects_merge_one; both = effects_merge_both }
