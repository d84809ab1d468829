use Rattle.std.proofs.Common.{◌≢◌, ◌⊎◌, subst, ap, ◌∙◌}
use Rattle.std.specs.List.{fold, filter}
use Rattle.ak_address.specs.Uniques.{no_one, with_one, in_order}
use Rattle.ak_member.specs.Standing.{is_member}
use Rattle.ak_detector.specs.Detector.{watching, watch_ring, silent}
use Rattle.ak_address.proofs.Failing.{on_err}
use Rattle.ak_detector.proofs.RingLaws.{some_of_both}
use Rattle.ak_detector.proofs.DetectorLemmas.{keys-each, watched_walked}
use Rattle.ak_detector.proofs.detector.Detector.watching.Goals as goal

pub invariant_of-result : goal.invariant_of-result
invariant_of-result c = keys-each c.self.inside.counters c.add_members.new.them c.in_ok-counters.counters (c.in_ok-counters.ensures {u = tt}).ok

pub returns-clause-ok : goal.returns-clause-ok
returns-clause-ok c =
    (c.in_ok-counters.ensures {u = tt}).ok
    ∙ watched_walked c.args.me.now c.args.members.now c.args.deadline c.self.inside.counters c.add_members.new.them
    ((c.in_ok-add_members.ensures {u = tt}).ok ∙ (λ i. fold with_one ((c.in_ok-watched.ensures {u = tt}).ok i) (filter (is_member c.args.members.now) (in_order ((c.in_ok-silent.ensures {u = tt}).ok i)))))
    ∙ ap (watching c.args.me.now c.args.members.now c.args.deadline) c.self.view_is

pub returns-in_err-counters-clause-memory : goal.returns-in_err-counters-clause-memory
returns-in_err-counters-clause-memory c =
    let either : (watch_ring c.args.me.now c.args.members.now ≢ no_one) ⊎ (silent c.args.deadline c.args.self.now ≢ no_one) =
    subst (λ s. (watch_ring c.args.me.now c.args.members.now ≢ no_one) ⊎ (silent c.args.deadline s ≢ no_one)) c.self.view_is
    (some_of_both (is_member c.args.members.now) _ _ c.add_members.new.them
    ((c.in_ok-add_members.ensures {u = tt}).ok ∙ (λ i. fold with_one ((c.in_ok-watched.ensures {u = tt}).ok i) (filter (is_member c.args.members.now) (in_order ((c.in_ok-silent.ensures {u = tt}).ok i)))))
    (c.in_err-counters.ensures {u = tt}).memory) in
    on_err _ either
