use Rattle.std.proofs.Common.{Some, option_map, ap, ◌∙◌}
use Rattle.std.specs.FinMap as map
use Rattle.ak_entity.specs.Active.{ActiveEntity}
use Rattle.ak_entity.proofs.StoredLemmas.{stored_get}
use Rattle.ak_entity.proofs.entities.Entities.log.Goals as goal

pub returns-in-Some : goal.returns-in-Some
returns-in-Some c =
    ap Some (c.as_slice.ensures.value ∙ ap (λ (a : ActiveEntity). a.log) c.active.view_is)
    ∙ ap (option_map (λ (a : ActiveEntity). a.log)) (
    c.in-Some.ensures.value
    ∙ stored_get c.self.inside.active.entries c.self.invariant c.args.self.now c.self.view_is c.bytes.result.now
    ∙ ap (map.get c.args.self.now) c.bytes.ensures
    )

pub returns-in-None : goal.returns-in-None
returns-in-None c =
    ap (option_map (λ (a : ActiveEntity). a.log)) (
    c.in-None.ensures.value
    ∙ stored_get c.self.inside.active.entries c.self.invariant c.args.self.now c.self.view_is c.bytes.result.now
    ∙ ap (map.get c.args.self.now) c.bytes.ensures
    )
