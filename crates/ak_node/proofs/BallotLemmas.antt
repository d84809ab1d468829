-- Lemmas of the answers of calls about ballots.
use Rattle.std.proofs.Common.{◌≡◌, Bool, true, false, not, ◌&&◌, ◌||◌, Option, Some, None, is_some, cond, refl, sym, ap, ◌∙◌}
use Rattle.std.specs.FinMap as finmap
use Rattle.std.specs.Ordering.{eq_by_cmp}
use Rattle.ak_address.specs.Unique.{UniqueModel, unique_cmp}
use Rattle.ak_address.specs.Uniques.{UniqueSet, no_one, has, with_one, without_one, those}
use Rattle.ak_address.proofs.TableLaws.{get-remove}
use Rattle.ak_address.proofs.UniquesLaws.{has-no_one, has-with_one, has-those, same_uniques}

removed_bit : (b : Bool) (o : Option (Unit {0})) (none : Bool) → none ≡ false → is_some (cond b None o) ≡ (is_some o && not (b || none))
removed_bit true None none is = refl
removed_bit true (Some u) none is = refl
removed_bit false None none is = refl
removed_bit false (Some u) none is = sym (ap not is)

-- all but one
pub without_is : (s : UniqueSet) (k : UniqueModel) → without_one s k ≡ those s (λ who. not (has (with_one no_one k) who))
without_is s k = same_uniques (without_one s k) (those s (λ who. not (has (with_one no_one k) who))) (λ q.
    ap is_some (get-remove s k q)
    ∙ removed_bit (eq_by_cmp unique_cmp q k) (finmap.get s q) (has no_one q) (has-no_one q)
    ∙ ap (λ b. has s q && not b) (sym (has-with_one no_one k q))
    ∙ sym (has-those s (λ who. not (has (with_one no_one k) who)) q))
