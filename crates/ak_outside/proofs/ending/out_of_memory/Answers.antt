use Rattle.ak_outside.proofs.Endings.{written_after}
use Rattle.ak_outside.proofs.ending.out_of_memory.Goals as goal

pub returns-clause-written : goal.returns-clause-written
returns-clause-written g c =
    written_after _ _ _ _ _ _ _ _ _ _ c.if-not-write_all.ensures.kept c.if-not-write_all.ensures.whole c.written.ensures.written
