use Rattle.std.proofs.Common.{length, ap, arith}
use Rattle.ak_coordinator.proofs.coordinator.Coordinator.learn.Goals as goal

pub learn_each-requires : goal.learn_each-requires
learn_each-requires c report there =
    let same = ap length c.self.view_is in
    let lt = c.requires report there in
    omega arith
