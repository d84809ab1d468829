use Rattle.ak_driver.proofs.OneReplay.{one_replay, replay_status}
use Rattle.ak_driver.proofs.SomeReplay.{some_replay}
use Rattle.ak_driver.proofs.laws.replays_are_determined.Goals as goal

pub returns : goal.returns
returns c = record { one = one_replay; status = replay_status; some = some_replay }
