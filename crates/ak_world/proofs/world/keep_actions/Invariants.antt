use Rattle.std.proofs.Common.{◌≡◌, ◌++◌, take}
use Rattle.ak_wire.specs.Wire.{sent}
use Rattle.ak_world.specs.World.{recorded}
use Rattle.ak_world.proofs.world.keep_actions.Given as goal

abbrev pub invariant-actions : goal.invariant-actions
invariant-actions l =
    (l.packets ≡ l.fn.packets ++ sent (take l.action-index l.actions)) × (l.history ≡ recorded l.author (take l.action-index l.actions) l.fn.history)
