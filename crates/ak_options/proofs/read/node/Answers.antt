use Rattle.ak_options.proofs.CommandLemmas.{only_node, node_err}
use Rattle.ak_options.proofs.read.node.Goals as goal

pub returns-in_default-only_number : goal.returns-in_default-only_number
returns-in_default-only_number c = only_node c.args.options.now (λ pairs are config ticks says. c.in_default-only_number.ensures pairs are ticks says.ticks_once)

pub returns-in_err-config : goal.returns-in_err-config
returns-in_err-config c =
    node_err c.args.options.now c.in-Some.config.now c.in-Some-only_number.ticks (c.are_options.ensures.0 c.if-not-are_options.false) c.in-Some.ensures c.in-Some-only_number.ensures
    c.from_residual.result c.from_residual.ensures.0
