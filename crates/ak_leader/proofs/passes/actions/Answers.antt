use Rattle.std.proofs.Common.{◌+◌, ◌++◌, drop, ap, ◌∙◌, arith, slice_get, option_to_list}
use Rattle.std.specs.FinMap as map
use Rattle.ak_address.proofs.Failing.{on_err}
use Rattle.ak_member.specs.Standing.{member_pairs}
use Rattle.ak_member.specs.View.{View}
use Rattle.ak_reach.specs.Unreachable.{unreachable_members}
use Rattle.ak_leader.specs.Leader.{all_led, leaders_effects}
use Rattle.ak_leader.specs.Walk.{number_past}
use Rattle.ak_leader.proofs.LeaderLaws.{some_led, led_next, led_end}
use Rattle.ak_leader.proofs.passes.actions.Goals as goal

pub pairs-preserved : goal.pairs-preserved
pairs-preserved c =
    let v : View = record { standings = c.args.members.now; rows = c.args.rows.now } in
    let lost = unreachable_members v in
    let confirmed = c.args.confirmed.now in
    let next = number_past c.pairs.number (member_pairs (option_to_list (slice_get (map.entries c.args.members.now) c.pairs.pair))) in
    let rest = member_pairs (drop (c.pairs.pair + 1) (map.entries c.args.members.now)) in
    ap (λ number. c.add.new.effects ++ all_led lost confirmed number rest) c.number_past-number.ensures
    ∙ ap (λ so_far. so_far ++ all_led lost confirmed next rest) (c.in_ok-add.ensures {u = tt}).ok
    ∙ led_next lost confirmed (map.entries c.args.members.now) c.pairs.pair c.pairs.number c.pairs.effects (option_to_list c.in_ok-effect.effect) (leaders_effects v confirmed) (c.in_ok-effect.ensures {u = tt}).ok c.pairs.invariant

pub returns-clause-ok : goal.returns-clause-ok
returns-clause-ok c =
    let v : View = record { standings = c.args.members.now; rows = c.args.rows.now } in
    led_end (unreachable_members v) c.args.confirmed.now (map.entries c.args.members.now) c.pairs.pair c.pairs.number c.pairs.effects (leaders_effects v c.args.confirmed.now) (let past = map.len-entries c.args.members.now in omega arith) c.pairs.invariant

-- where it fails, there is an effect
pub returns-in_err-effect-clause-memory : goal.returns-in_err-effect-clause-memory
returns-in_err-effect-clause-memory c =
    let v : View = record { standings = c.args.members.now; rows = c.args.rows.now } in
    on_err _ (some_led (unreachable_members v) c.args.confirmed.now (map.entries c.args.members.now) c.pairs.pair c.pairs.number c.pairs.effects (leaders_effects v c.args.confirmed.now) c.pairs.invariant (c.in_err-effect.ensures {u = tt}).memory)

pub returns-in_err-add-clause-memory : goal.returns-in_err-add-clause-memory
returns-in_err-add-clause-memory c =
    let v : View = record { standings = c.args.members.now; rows = c.args.rows.now } in
    on_err _ (some_led (unreachable_members v) c.args.confirmed.now (map.entries c.args.members.now) c.pairs.pair c.pairs.number c.pairs.effects (leaders_effects v c.args.confirmed.now) c.pairs.invariant
    (λ none. (c.in_err-add.ensures {u = tt}).memory ((c.in_ok-effect.ensures {u = tt}).ok ∙ none)))
