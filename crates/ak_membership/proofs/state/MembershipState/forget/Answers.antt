use Rattle.std.proofs.Common.{ap, sym, ◌∙◌}
use Rattle.ak_address.specs.Uniques.{no_one}
use Rattle.ak_sight.specs.Counted.{kept_tally_of}
use Rattle.ak_sight.proofs.CountLemmas.{empty_kept}
use Rattle.ak_membership.proofs.state.MembershipState.forget.Goals as goal

pub returns-clause-tally : goal.returns-clause-tally
returns-clause-tally c = c.empty.ensures ∙ empty_kept c.args.self.now.settings.role no_one ∙ ap (kept_tally_of c.args.self.now.settings.role) (sym c.empty-2.ensures)
