use Rattle.std.proofs.Common.{◌&&◌, sym, arith}
use Rattle.std.specs.Prelude.{not}
use Rattle.ak_address.specs.Uniques.{has, in_order}
use Rattle.ak_address.proofs.UniquesLaws.{length-in_order}
use Rattle.ak_member.proofs.Folds.{keeps_all}
use Rattle.ak_member.specs.Standing.{is_member}
use Rattle.ak_membership.specs.Tick.{silent}
use Rattle.ak_membership.proofs.SilenceLemmas.{heard_subjects}
use Rattle.ak_sight.proofs.WalkLemmas.{some_found, some_passed, none_left}
use Rattle.ak_membership.proofs.state.MembershipState.hears_one_of.Goals as goal

pub subjects-init : goal.subjects-init
subjects-init c = sym (heard_subjects c.args.self.now c.args.subjects.now (is_member c.args.self.now.gossip.view.standings))

pub returns-then-is_heard_at : goal.returns-then-is_heard_at
returns-then-is_heard_at c = some_found (λ xs. xs) keeps_all (λ who. is_member c.args.self.now.gossip.view.standings who && not (has (silent c.args.self.now) who)) (in_order c.args.subjects.now) c.subjects.index _ c.subjects.invariant c.if-is_heard_at.ensures

pub subjects-preserved : goal.subjects-preserved
subjects-preserved c = some_passed (λ xs. xs) keeps_all (λ who. is_member c.args.self.now.gossip.view.standings who && not (has (silent c.args.self.now) who)) (in_order c.args.subjects.now) c.subjects.index _ c.subjects.invariant c.if-is_heard_at.ensures

pub returns : goal.returns
returns c = none_left (λ xs. xs) keeps_all (λ who. is_member c.args.self.now.gossip.view.standings who && not (has (silent c.args.self.now) who)) (in_order c.args.subjects.now) c.subjects.index _ c.subjects.invariant (let past = length-in_order c.args.subjects.now in omega arith)
