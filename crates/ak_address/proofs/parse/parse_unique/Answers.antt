use Rattle.std.proofs.Common.{◌≡◌, List, ℕ, Ok, ◌∙◌, refl, ap, arith}
use Rattle.std.proofs.lemmas.Result.{err_from_is_err_and}
use Rattle.ak_address.specs.Unique.{UniqueModel}
use Rattle.ak_address.specs.Spelling.{IsNumber, ChecksPort, before_byte, after_byte}
use Rattle.ak_address.proofs.SpellingLemmas.{unique_parts, unique_read, unique_same, unique_not_refused}
use Rattle.ak_address.proofs.parse.parse_unique.Goals as goal

pub returns-in_err-port-clause-only : goal.returns-in_err-port-clause-only
returns-in_err-port-clause-only c =
    λ u spelt.
    let bytes = c.args.bytes.now in
    let p = err_from_is_err_and c.from_residual.result c.from_residual.ensures.1 in
    let port : c.split_at_byte-2.result.0.now ≡ before_byte 35 (after_byte 58 bytes) = c.split_at_byte-2.ensures.before ∙ ap (λ (b : List ℕ). before_byte 35 b) c.split_at_byte.ensures.after in
    rw (p.1, p.2) (unique_not_refused bytes _ _ u _ c.split_at_byte.ensures.before port (c.in_err-port.ensures {u = tt}) spelt)

pub returns-in_default-clause-only : goal.returns-in_default-clause-only
returns-in_default-clause-only c =
    λ u spelt.
    let bytes = c.args.bytes.now in
    let parts = unique_parts bytes u spelt in
    let rest : c.split_at_byte-2.result.1.now ≡ after_byte 35 (after_byte 58 bytes) = c.split_at_byte-2.ensures.after ∙ ap (λ (b : List ℕ). after_byte 35 b) c.split_at_byte.ensures.after in
    let uid : IsNumber c.split_at_byte-2.result.1.now u.uid = rw rest parts.2 in
    c.in_default.ensures.none u.uid uid spelt.range.uid (omega arith)

pub returns-clause-read : goal.returns-clause-read
returns-clause-read c =
    let bytes = c.args.bytes.now in
    let checked : ChecksPort (before_byte 58 bytes) (before_byte 35 (after_byte 58 bytes)) (Ok c.in_ok-port.port) = rw (c.split_at_byte.ensures.before, c.split_at_byte-2.ensures.before, c.split_at_byte.ensures.after) at (c.in_ok-port.ensures {u = tt}) in
    let found = c.in-Some.ensures.found in
    let rest : c.split_at_byte-2.result.1.now ≡ after_byte 35 (after_byte 58 bytes) = c.split_at_byte-2.ensures.after ∙ ap (λ (b : List ℕ). after_byte 35 b) c.split_at_byte.ensures.after in
    let uid : IsNumber (after_byte 35 (after_byte 58 bytes)) c.in-Some.uid = rw rest at found.0 in
    unique_read bytes (record { address = record { host = c.in_ok-host.host; port = c.in_ok-port.port }; uid = c.in-Some.uid }) (c.in_ok-host.ensures {u = tt} ∙ c.split_at_byte.ensures.before) checked uid (omega arith) (omega arith)

pub returns-clause-only : goal.returns-clause-only
returns-clause-only c = λ u spelt. unique_same c.args.bytes.now _ u (returns-clause-read c) spelt

pub returns-in_err-host-clause-memory : goal.returns-in_err-host-clause-memory
returns-in_err-host-clause-memory c =
    λ _.
    let bytes = c.args.bytes.now in
    let checked : ChecksPort (before_byte 58 bytes) (before_byte 35 (after_byte 58 bytes)) (Ok c.in_ok-port.port) = rw (c.split_at_byte.ensures.before, c.split_at_byte-2.ensures.before, c.split_at_byte.ensures.after) at (c.in_ok-port.ensures {u = tt}) in
    let found = c.in-Some.ensures.found in
    let rest : c.split_at_byte-2.result.1.now ≡ after_byte 35 (after_byte 58 bytes) = c.split_at_byte-2.ensures.after ∙ ap (λ (b : List ℕ). after_byte 35 b) c.split_at_byte.ensures.after in
    let uid : IsNumber (after_byte 35 (after_byte 58 bytes)) c.in-Some.uid = rw rest at found.0 in
    let u : UniqueModel = record { address = record { host = before_byte 58 bytes; port = c.in_ok-port.port }; uid = c.in-Some.uid } in
    (u, unique_read bytes u refl checked uid (omega arith) (omega arith))
