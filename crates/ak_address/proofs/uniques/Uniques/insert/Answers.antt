use Rattle.std.proofs.Common.{true≢false, is_some, sym, ap, ◌∙◌}
use Rattle.ak_address.specs.Uniques.{has}
use Rattle.ak_address.proofs.TableLemmas.{has_place, has_no_place}
use Rattle.ak_address.proofs.UniquesLaws.{with_present}
use Rattle.ak_address.proofs.uniques.Uniques.insert.Goals as goal

-- a process that is there already changes nothing
pub returns-in-Ok-clause-ok : goal.returns-in-Ok-clause-ok
returns-in-Ok-clause-ok c = with_present _ _ (sym (ap (λ t. has t c.args.who.now) c.self.view_is) ∙ has_place c.self.inside.table c.args.who.now _ c.in-Ok.ensures)

-- and one that is there has no other place to go to
pub returns-in_err-who-in-Err-clause-present : goal.returns-in_err-who-in-Err-clause-present
returns-in_err-who-in-Err-clause-present c found =
    absurd (true≢false (sym found ∙ sym (ap (λ t. has t c.args.who.now) c.self.view_is) ∙ ap is_some (has_no_place c.self.inside.table c.args.who.now _ c.in-Err.ensures)))

pub returns-in_ok-who-in-Err-clause-present : goal.returns-in_ok-who-in-Err-clause-present
returns-in_ok-who-in-Err-clause-present c found =
    absurd (true≢false (sym found ∙ sym (ap (λ t. has t c.args.who.now) c.self.view_is) ∙ ap is_some (has_no_place c.self.inside.table c.args.who.now _ c.in-Err.ensures)))
