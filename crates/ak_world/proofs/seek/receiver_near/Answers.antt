use Rattle.std.proofs.Common.{Some, sym, ap, ◌∙◌}
use Rattle.std.proofs.lemmas.Option.{slice_get-get_or}
use Rattle.ak_node.specs.NodeContracts.{NodeModel}
use Rattle.ak_world.specs.World.{is_reached}
use Rattle.ak_world.proofs.SeekLemmas.{found_only}
use Rattle.ak_world.proofs.seek.receiver_near.Goals as goal

pub returns-then-is_reached : goal.returns-then-is_reached
returns-then-is_reached c = found_only (λ (n : NodeModel). is_reached c.args.envelope.now n.state) c.args.nodes.now c.args.near c.in-Some.node.now c.requires (slice_get-get_or c.args.nodes.now c.args.near c.in-Some.node.now c.in-Some.ensures.lookup.3.0 ∙ ap Some (sym c.in-Some.ensures.lookup.1)) (sym c.is_reached.ensures ∙ c.if-is_reached.true)
