use Rattle.std.proofs.Common.{rules, ◌≡◌, ◌≢◌}
use Rattle.ak_options.proofs.OptionLemmas.{found_here, one_less, none_left}
use Rattle.ak_options.proofs.options.next_value.Goals as goal

pub returns-then-eq : goal.returns-then-eq
returns-then-eq c = λ pairs are.
    let same : c.in-Some.option.now ≡ c.args.name.now = search rules in
    found_here c.args.name.now pairs c.pairs.left.now c.in-Some.option.now c.in-Some.value.now c.in-Some.rest.now (c.pairs.invariant pairs are) c.in-Some.ensures same

pub pairs-preserved : goal.pairs-preserved
pairs-preserved c = λ pairs are.
    let other : c.in-Some.option.now ≢ c.args.name.now = search rules in
    one_less c.args.name.now pairs c.pairs.left.now c.in-Some.option.now c.in-Some.value.now c.in-Some.rest.now (c.pairs.invariant pairs are) c.in-Some.ensures other

pub returns : goal.returns
returns c = λ pairs are. none_left c.args.name.now pairs c.pairs.left.now (c.pairs.invariant pairs are) c.in_default.ensures
