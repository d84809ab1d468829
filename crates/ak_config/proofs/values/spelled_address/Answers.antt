use Rattle.std.proofs.Common.{refl}
use Rattle.ak_config.proofs.AddressLemmas.{found_spelled, no_host, no_port}
use Rattle.ak_config.proofs.values.spelled_address.Goals as goal

pub returns-in-Ok-clause-gives : goal.returns-in-Ok-clause-gives
returns-in-Ok-clause-gives c = rw (found_spelled c.args.bytes.now c.in-Ok.address c.in-Ok.ensures.read) refl

pub returns-in-Err-BadHost-clause-gives : goal.returns-in-Err-BadHost-clause-gives
returns-in-Err-BadHost-clause-gives c = rw (no_host c.args.bytes.now (c.in-Err-BadHost.ensures.host.0 (rw c.in-Err-BadHost.field-0-is refl))) refl

pub returns-in-Err-BadPort-clause-gives : goal.returns-in-Err-BadPort-clause-gives
returns-in-Err-BadPort-clause-gives c =
    let bad = c.in-Err-BadPort.ensures.port.0 (rw c.in-Err-BadPort.field-0-is refl) in
    rw (no_port c.args.bytes.now bad.0 bad.1) refl
