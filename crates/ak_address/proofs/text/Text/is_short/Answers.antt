use Rattle.std.proofs.Common.{◌≡◌, ◌%◌, ◌∙◌, min, length, ap, arith, le-leb, leb-true}
use Rattle.ak_address.proofs.StartLaws.{start_counts}
use Rattle.ak_address.proofs.text.Text.is_short.Goals as goal

pub returns : goal.returns
returns c =
    let counts : c.self.inside.start % 256 ≡ min (length c.args.self.now) 8 = start_counts c.self.invariant.kept ∙ ap (λ bytes. min (length bytes) 8) c.self.view_is in
    (λ told. omega (arith, leb-true (c.self.inside.start % 256) 7 told, counts), λ short. le-leb (c.self.inside.start % 256) 7 (omega (arith, short, counts)))
