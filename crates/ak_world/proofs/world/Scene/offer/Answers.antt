use Rattle.std.proofs.Common.{◌≡◌, true, false, List, ℕ, slice_get, refl, sym, ap, ◌∙◌}
use Rattle.std.proofs.lemmas.Result.{err_from_is_err_and}
use Rattle.ak_node.specs.declared.node.NodeEvent.TheVariants.{Offer}
use Rattle.ak_settings.specs.Settings.{SettingsModel, is_entity_in}
use Rattle.ak_world.specs.World.{gives}
use Rattle.ak_world.specs.WorldContracts.{state_of}
use Rattle.ak_world.proofs.AlikeRuns.{apart_too}
use Rattle.ak_world.proofs.WorldLemmas.{accepted-too, bad-answer, given-accepted, offer-answer, ran-out}
use Rattle.ak_world.proofs.world.Scene.offer.Goals as goal

pub returns-then-not-entity_ok-clause-scenes : goal.returns-then-not-entity_ok-clause-scenes
returns-then-not-entity_ok-clause-scenes c =
    let w = state_of c.args.self.now in
    let settings = c.args.self.now.settings in
    let entity = c.args.entity.now in
    let text : c.bytes.result.now ≡ entity = c.bytes.ensures ∙ c.name.ensures.same in
    let bad : is_entity_in settings entity ≡ false = sym (ap (is_entity_in settings) text) ∙ sym c.entity_ok.ensures ∙ c.if-not-entity_ok.true in
    let accepted = accepted-too _ _ (c.in-Ok.ensures.1 (Offer entity c.args.payload)) (given-accepted (Offer entity c.args.payload) c.in-Ok.index w c.in-Ok.ensures.0) in
    record { reason = bad-answer settings c.args.who.now entity c.args.payload w bad accepted; unchanged = refl }

pub returns-in_err-entity-clause-scenes : goal.returns-in_err-entity-clause-scenes
returns-in_err-entity-clause-scenes c =
    let w = state_of c.args.self.now in
    let settings = c.args.self.now.settings in
    let entity = c.args.entity.now in
    let text : c.bytes.result.now ≡ entity = c.bytes.ensures ∙ c.name.ensures.same in
    let is : is_entity_in settings entity ≡ true = sym (ap (is_entity_in settings) text) ∙ sym c.entity_ok.ensures ∙ c.if-not-entity_ok.false in
    let p = err_from_is_err_and c.from_residual.result c.from_residual.ensures.1 in
    ran-out w _ _ _ p.0
    (accepted-too _ _ (offer-answer settings c.args.who.now entity c.args.payload w is ∙ c.in-Ok.ensures.1 (Offer entity c.args.payload))
    (given-accepted (Offer entity c.args.payload) c.in-Ok.index w c.in-Ok.ensures.0)) p.1 (_, p.2)

pub give-requires-clause-apart : goal.give-requires-clause-apart
give-requires-clause-apart c =
    let w = state_of c.args.self.now in
    let settings = c.args.self.now.settings in
    let entity = c.args.entity.now in
    let text : c.bytes.result.now ≡ entity = c.bytes.ensures ∙ c.name.ensures.same in
    let is : is_entity_in settings entity ≡ true = sym (ap (is_entity_in settings) text) ∙ sym c.entity_ok.ensures ∙ c.if-not-entity_ok.false in
    apart_too _ _
    (offer-answer settings c.args.who.now entity c.args.payload w is
    ∙ c.in-Ok.ensures.1 (Offer entity c.args.payload)
    ∙ ap (λ (name : List ℕ). gives (Offer name c.args.payload) c.in-Ok.index (slice_get w.nodes c.in-Ok.index) w) (sym c.in_ok-entity.ensures))
    c.requires.apart

pub give-requires-clause-offered : goal.give-requires-clause-offered
give-requires-clause-offered c = λ n at.
    let settings = c.args.self.now.settings in
    let entity = c.args.entity.now in
    let text : c.bytes.result.now ≡ entity = c.bytes.ensures ∙ c.name.ensures.same in
    let is : is_entity_in settings entity ≡ true = sym (ap (is_entity_in settings) text) ∙ sym c.entity_ok.ensures ∙ c.if-not-entity_ok.false in
    ap (λ (s : SettingsModel). is_entity_in s c.in_ok-entity.entity) (c.requires.same c.in-Ok.index n at) ∙ ap (is_entity_in settings) c.in_ok-entity.ensures ∙ is
