use Rattle.std.proofs.Common.{◌&&◌, sym, ap, ◌∙◌, arith}
use Rattle.std.specs.Prelude.{not}
use Rattle.ak_address.specs.Changed.{keys_of}
use Rattle.ak_address.specs.Uniques.{has, in_order, how_many}
use Rattle.ak_address.proofs.UniquesLaws.{length-in_order}
use Rattle.ak_member.proofs.Folds.{keeps_all}
use Rattle.ak_membership.specs.Tick.{silent, own_subjects}
use Rattle.ak_membership.proofs.SilenceLemmas.{found_watched}
use Rattle.ak_sight.proofs.WalkLemmas.{some_found, some_passed, none_left}
use Rattle.ak_membership.proofs.state.MembershipState.finds_one.Goals as goal

pub indices-init : goal.indices-init
indices-init c = sym (found_watched c.args.self.now)

pub returns-then-is_found_at : goal.returns-then-is_found_at
returns-then-is_found_at c = some_found (λ xs. xs) keeps_all (λ who. has (silent c.args.self.now) who && not (has (own_subjects c.args.self.now) who)) (in_order (keys_of c.args.self.now.detector)) c.indices.index _ c.indices.invariant c.if-is_found_at.ensures

pub indices-preserved : goal.indices-preserved
indices-preserved c = some_passed (λ xs. xs) keeps_all (λ who. has (silent c.args.self.now) who && not (has (own_subjects c.args.self.now) who)) (in_order (keys_of c.args.self.now.detector)) c.indices.index _ c.indices.invariant c.if-is_found_at.ensures

pub returns : goal.returns
returns c = none_left (λ xs. xs) keeps_all (λ who. has (silent c.args.self.now) who && not (has (own_subjects c.args.self.now) who)) (in_order (keys_of c.args.self.now.detector)) c.indices.index _ c.indices.invariant (let past = length-in_order (keys_of c.args.self.now.detector) in let many = c.len-index-end.ensures ∙ ap how_many c.watched.ensures in omega arith)
