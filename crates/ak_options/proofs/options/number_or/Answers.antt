use Rattle.ak_options.proofs.OptionLemmas.{number_given}
use Rattle.ak_options.specs.Options.{values}
use Rattle.ak_options.proofs.options.number_or.Goals as goal

pub returns-in-Some : goal.returns-in-Some
returns-in-Some c = λ pairs are.
    let found = c.in-Some.ensures pairs are in
    number_given c.args.name.now c.args.least c.args.most c.args.default pairs c.in-Some.field-0.0.now (values c.args.name.now found.0) c.only_number.result found.2 (c.only_number.ensures pairs are)
