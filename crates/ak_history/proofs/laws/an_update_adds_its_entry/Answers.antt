use Rattle.std.proofs.Common.{◌+◌, ap}
use Rattle.ak_clock.specs.Version.{count}
use Rattle.ak_history.proofs.ViewsMerged.{view-update}
use Rattle.ak_history.proofs.laws.an_update_adds_its_entry.Goals as goal

pub returns : goal.returns
returns c = λ author effects history v numbered own.
    view-update (record { author = author; number = count v author + 1; effects = effects }) history v (ap (λ k. k + 1) own, numbered) own
