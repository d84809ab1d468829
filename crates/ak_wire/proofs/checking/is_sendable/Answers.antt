use Rattle.std.proofs.Common.{refl}
use Rattle.ak_wire.proofs.checking.is_sendable.Goals as goal

pub returns : goal.returns
returns c = (λ _. c.sendable.ensures, λ _. refl)
