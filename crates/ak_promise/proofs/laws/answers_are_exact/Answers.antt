use Rattle.ak_promise.proofs.PromiseLaws.{exactly}
use Rattle.ak_promise.proofs.laws.answers_are_exact.Goals as goal

pub returns : goal.returns
returns c a p b finished = exactly p b finished a
