use Rattle.std.proofs.Common.{rules}
use Rattle.std.specs.IoError.{error_kind}
use Rattle.ak_link.specs.Calls.{IsPassing}
use Rattle.ak_link.proofs.Retries.{tried_again}
use Rattle.ak_link.proofs.calls.receive.Goals as goal

pub tries-preserved : goal.tries-preserved
tries-preserved g c =
    let passing : IsPassing (error_kind c.in-Err.e) = search rules in
    tried_again g.S.Datagrams.receives c.args.socket.now c.tries.counter c.tries.socket c.receive.new.self c.in-Err.e c.tries.invariant c.in-Err.ensures.gives passing
