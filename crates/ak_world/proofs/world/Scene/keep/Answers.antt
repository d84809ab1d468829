use Rattle.std.proofs.Common.{◌≡◌, List, ◌++◌, refl, sym, ap, ◌∙◌, subst}
use Rattle.std.proofs.lemmas.Option.{same_Some}
use Rattle.ak_address.specs.Unique.{UniqueModel}
use Rattle.ak_node.specs.Node.{me_of}
use Rattle.ak_node.specs.Sends.{AreValid}
use Rattle.ak_wire.specs.declared.action.Action.{Action}
use Rattle.ak_wire.specs.Wire.{sent}
use Rattle.ak_world.specs.Stored.{AreToldApart}
use Rattle.ak_world.specs.World.{recorded}
use Rattle.ak_world.proofs.WorldLemmas.{state-at}
use Rattle.ak_world.proofs.world.Scene.keep.Goals as goal

pub keep_actions-requires-clause-valid : goal.keep_actions-requires-clause-valid
keep_actions-requires-clause-valid c = subst AreValid (sym c.as_slice.ensures) c.requires.valid

pub keep_actions-requires-clause-apart : goal.keep_actions-requires-clause-apart
keep_actions-requires-clause-apart c = subst (λ (xs : List Action). AreToldApart (c.args.self.now.packets ++ sent xs)) (sym c.as_slice.ensures) c.requires.apart

pub returns-clause-kept : goal.returns-clause-kept
returns-clause-kept c = λ n at.
    let here = state-at c.args.self.now.nodes.items c.args.index c.index.result.now c.requires.index c.index.ensures in
    let node : c.index.result.now.state ≡ n = same_Some c.index.result.now.state n (sym here ∙ at) in
    let history = c.args.self.now.history in
    record {
      nodes = refl;
      packets = c.in_ok-keep_actions.ensures.sent ∙ ap (λ (xs : List Action). c.args.self.now.packets ++ sent xs) c.as_slice.ensures;
      history = c.in_ok-keep_actions.ensures.updated
          ∙ ap (λ (xs : List Action). recorded c.me.result.now xs history) c.as_slice.ensures
          ∙ ap (λ (u : UniqueModel). recorded u c.args.actions history) (c.me.ensures ∙ ap me_of node);
      founded = refl;
      few = c.in_ok-keep_actions.ensures.numbered;
      node = c.number_of.ensures;
      first_packet = c.next_packet-first_packet.ensures;
      actions_shown = refl;
    }
