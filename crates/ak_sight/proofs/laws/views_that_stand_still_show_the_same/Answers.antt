use Rattle.ak_sight.proofs.MovedLaws.{stood_still, stands_still}
use Rattle.ak_sight.proofs.laws.views_that_stand_still_show_the_same.Goals as goal

pub returns : goal.returns
returns c = λ v w. (stood_still v w, stands_still v w)
