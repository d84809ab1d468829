use Rattle.std.proofs.Common.{refl}
use Rattle.ak_meaning.proofs.ResolverLaws.{downs_rightly}
use Rattle.ak_meaning.proofs.laws.a_decision_downs_its_members.Goals as goal

pub returns : goal.returns
returns c = record { all = λ role v me. refl; downs = λ strategy role v me. downs_rightly role v me strategy }
