use Rattle.std.proofs.Common.{◌≡◌, ap, arith}
use Rattle.ak_sight.specs.Counted.{KeptTallyModel}
use Rattle.ak_sight.proofs.CountLemmas.{seen_kept}
use Rattle.ak_sight.proofs.count.keep_seen.Goals as goal

pub returns-else-missing-gt0 : goal.returns-else-missing-gt0
returns-else-missing-gt0 c = λ role so.
    let none : c.args.tally.now.numbers.missing ≡ 0 = let is = c.missing.ensures in let seen = ap (λ (t : KeptTallyModel). t.numbers.missing) c.tally.view_is in let most = c.if-missing-gt0.false in omega arith in
    seen_kept role c.args.tally.now c.args.old.now c.args.new.now so c.requires.seen none
