use Rattle.std.proofs.Common.{Ok, ◌∙◌, refl}
use Rattle.std.proofs.lemmas.Result.{err_from_is_err_and}
use Rattle.ak_address.specs.Spelling.{ChecksPort, before_byte, after_byte}
use Rattle.ak_address.proofs.SpellingLemmas.{address_read, address_same, address_not_refused}
use Rattle.ak_address.proofs.parse.parse_address.Goals as goal

pub returns-in_err-port-clause-only : goal.returns-in_err-port-clause-only
returns-in_err-port-clause-only c =
    λ a spelt.
    let bytes = c.args.bytes.now in
    let p = err_from_is_err_and c.from_residual.result c.from_residual.ensures.1 in
    rw (p.1, p.2) (address_not_refused bytes _ _ a _ c.split_at_byte.ensures.before c.split_at_byte.ensures.after (c.in_err-port.ensures {u = tt}) spelt)

pub returns-clause-read : goal.returns-clause-read
returns-clause-read c =
    let bytes = c.args.bytes.now in
    let checked : ChecksPort (before_byte 58 bytes) (after_byte 58 bytes) (Ok c.in_ok-port.port) = rw (c.split_at_byte.ensures.before, c.split_at_byte.ensures.after) at (c.in_ok-port.ensures {u = tt}) in
    address_read bytes (record { host = c.in_ok-host.host; port = c.in_ok-port.port }) (c.in_ok-host.ensures {u = tt} ∙ c.split_at_byte.ensures.before) checked

pub returns-clause-only : goal.returns-clause-only
returns-clause-only c = λ a spelt. address_same c.args.bytes.now _ a (returns-clause-read c) spelt

pub returns-in_err-host-clause-memory : goal.returns-in_err-host-clause-memory
returns-in_err-host-clause-memory c =
    λ _.
    let bytes = c.args.bytes.now in
    let checked : ChecksPort (before_byte 58 bytes) (after_byte 58 bytes) (Ok c.in_ok-port.port) = rw (c.split_at_byte.ensures.before, c.split_at_byte.ensures.after) at (c.in_ok-port.ensures {u = tt}) in
    (record { host = before_byte 58 bytes; port = c.in_ok-port.port }, address_read bytes (record { host = before_byte 58 bytes; port = c.in_ok-port.port }) refl checked)
