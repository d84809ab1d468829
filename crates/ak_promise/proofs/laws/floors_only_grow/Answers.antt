use Rattle.ak_promise.proofs.PromiseLaws.{floor_asked, floor_released, released_covers}
use Rattle.ak_promise.proofs.laws.floors_only_grow.Goals as goal

pub returns : goal.returns
returns c = record { asked = floor_asked; released = floor_released; covers = released_covers }
