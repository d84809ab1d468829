use Rattle.std.proofs.Common.{Some, sym, ap, ◌∙◌}
use Rattle.std.proofs.lemmas.Option.{slice_get-get_or}
use Rattle.std.specs.Ordering.{is_eq}
use Rattle.ak_address.specs.Unique.{unique_cmp}
use Rattle.ak_node.specs.NodeContracts.{NodeModel}
use Rattle.ak_world.specs.World.{is_process}
use Rattle.ak_world.proofs.SeekLemmas.{found_only}
use Rattle.ak_world.proofs.seek.node_near.Goals as goal

pub returns-then-is : goal.returns-then-is
returns-then-is c = found_only (λ (n : NodeModel). is_process c.args.who.now n.state) c.args.nodes.now c.args.near c.in-Some.node.now c.requires (slice_get-get_or c.args.nodes.now c.args.near c.in-Some.node.now c.in-Some.ensures.lookup.3.0 ∙ ap Some (sym c.in-Some.ensures.lookup.1)) (ap (λ u. is_eq (unique_cmp u c.args.who.now)) (sym c.me.ensures) ∙ sym c.is.ensures.value ∙ c.if-is.true)
