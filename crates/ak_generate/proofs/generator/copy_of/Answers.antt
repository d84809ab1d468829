use Rattle.std.proofs.Common.{sym, ◌∙◌}
use Rattle.ak_generate.proofs.GenerateLemmas.{same_words}
use Rattle.ak_generate.proofs.generator.copy_of.Goals as goal

pub returns : goal.returns
returns c = let h = (c.in_ok-copy.ensures {u = tt}).cases in sym h.3 ∙ same_words _ _ _ _ h.4.0 h.4.1 ∙ h.2
