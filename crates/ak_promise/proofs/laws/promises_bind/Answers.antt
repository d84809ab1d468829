use Rattle.ak_promise.proofs.PromiseLaws.{others_bind, released_is_old}
use Rattle.ak_promise.proofs.laws.promises_bind.Goals as goal

pub returns : goal.returns
returns c = record { others = others_bind; released = released_is_old }
