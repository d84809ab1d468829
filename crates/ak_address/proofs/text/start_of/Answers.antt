use Rattle.std.proofs.Common.{◌≡◌, ◌+◌, ◌*◌, min, length, ap, arith, ◌∙◌}
use Rattle.ak_address.specs.Start.{first_bytes, start_of}
use Rattle.ak_address.proofs.StartLaws.{has_room}
use Rattle.ak_address.proofs.text.start_of.Goals as goal

pub overflow_mul-start : goal.overflow_mul-start
overflow_mul-start c = omega (arith, has_room c.places.place c.args.bytes.now (λ i. omega (arith, c.type_inv.bytes i)) (omega arith))

pub overflow_add-start : goal.overflow_add-start
overflow_add-start c = omega (arith, has_room c.places.place c.args.bytes.now (λ i. omega (arith, c.type_inv.bytes i)) (omega arith))

pub returns : goal.returns
unfolding start_of
returns c =
    let all : c.places.place ≡ 7 = omega arith in
    let worth : c.places.start ≡ first_bytes 7 c.args.bytes.now = c.places.invariant ∙ ap (λ n. first_bytes n c.args.bytes.now) all in
    let many : c.min.result ≡ min (length c.args.bytes.now) 8 = c.min.ensures in
    λ i. worth i * 256 + many i
