use Rattle.std.proofs.Common.{◌≡◌, List, [], ◌∷◌, ◌++◌, ap, sym, refl, ◌∙◌}
use Rattle.std.proofs.lemmas.List.{append-nil}
use Rattle.std.proofs.lemmas.Option.{slice_get_read}
use Rattle.ak_wire.specs.declared.action.Action.{Action}
use Rattle.ak_wire.specs.declared.envelope.Envelope.{Envelope}
use Rattle.ak_wire.specs.Wire.{sent}
use Rattle.ak_world.specs.World.{recorded}
use Rattle.ak_world.proofs.WorldLemmas.{sent-kept, sent-none, sent-there, recorded-kept, recorded-none, recorded-pushed}
use Rattle.ak_world.proofs.AlikeRuns.{apart_pushed}
use Rattle.ak_world.proofs.world.keep_actions.Goals as goal
use Rattle.ak_world.proofs.world.keep_actions.Goals.{in-Send+in_ok-push-in-Send, in-Update+in_ok-copy-in-Update+in_ok-push-in-Update, in_default}

pub push-requires-clause-apart : goal.push-requires-clause-apart
push-requires-clause-apart c =
    let at = slice_get_read c.args.actions.now _ c.actions.action-index c.action-item.result refl c.actions-test.true c.action-item.is in
    apart_pushed c.args.packets.now c.actions.packets c.args.actions.now c.actions.action-index c.action-item.result c.in-Send.envelope c.actions.invariant.0 at c.in-Send.is c.requires.apart

pub push-requires-clause-valid : goal.push-requires-clause-valid
push-requires-clause-valid c =
    let at = slice_get_read c.args.actions.now _ c.actions.action-index c.action-item.result refl c.actions-test.true c.action-item.is in
    c.requires.valid c.in-Send.envelope (sent-there c.args.actions.now c.actions.action-index c.action-item.result c.in-Send.envelope at c.in-Send.is)

-- the packets after an action, and the history
pub actions-preserved : goal.actions-preserved
actions-preserved c =
    let here :
    (c.match-action.packets ≡ c.actions.packets ++ sent (c.action-item.result ∷ []))
    × (c.match-action.history ≡ recorded c.args.author.now (c.action-item.result ∷ []) c.actions.history) =
    elim c.match-action.branch [
      | in-Send+in_ok-push-in-Send w ↦ (
        w.packets-is ∙ w.in_ok-push-in-Send.ensures.ok ∙ ap (λ (x : Action). c.actions.packets ++ sent (x ∷ [])) (sym w.in-Send.is),
        w.history-is ∙ ap (λ (x : Action). recorded c.args.author.now (x ∷ []) c.actions.history) (sym w.in-Send.is),
      )
      | in-Update+in_ok-copy-in-Update+in_ok-push-in-Update w ↦ (
        w.packets-is ∙ sym (append-nil c.actions.packets) ∙ ap (λ (x : Action). c.actions.packets ++ sent (x ∷ [])) (sym w.in-Update.is),
        recorded-pushed _ _ _ _ _ _ _ _ w.in-Update.is w.in_ok-copy-in-Update.ensures.ok w.in_ok-push-in-Update.ensures.number (w.history-is ∙ w.in_ok-push-in-Update.ensures.ok),
      )
      | in_default w ↦ (
        w.packets-is ∙ sym (append-nil c.actions.packets) ∙ ap (λ (es : List Envelope). c.actions.packets ++ es) (sym (sent-none c.action-item.result w.in_default.not-Send)),
        w.history-is ∙ sym (recorded-none c.args.author.now c.actions.history c.action-item.result w.in_default.not-Update),
      )
    ] in (
      sent-kept c.args.packets.now c.actions.packets c.match-action.packets c.args.actions.now c.actions.action-index c.action-item.result c.actions-test.true c.action-item.is c.actions.invariant.0 here.0,
      recorded-kept c.args.author.now c.args.history.now c.actions.history c.match-action.history c.args.actions.now c.actions.action-index c.action-item.result c.actions-test.true c.action-item.is c.actions.invariant.1 here.1,
    )
