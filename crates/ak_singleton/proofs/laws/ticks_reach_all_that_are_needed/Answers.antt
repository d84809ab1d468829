use Rattle.ak_singleton.specs.Singleton.{only}
use Rattle.ak_singleton.proofs.SingletonLaws.{has-needed_but, needed_others}
use Rattle.ak_singleton.proofs.laws.ticks_reach_all_that_are_needed.Goals as goal

pub returns : goal.returns
returns c = record {
  begun = λ me settled margin s who. has-needed_but margin settled (only me) who;
  asked = λ me settled margin s who. has-needed_but margin settled s.granted who;
  told = λ me settled margin s who. needed_others margin settled me who;
}
