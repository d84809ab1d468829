-- Sets are the same where their elements are.
use Rattle.std.proofs.Common.{◌≡◌, List, [], ◌∷◌, refl, sym, ap, ◌∙◌}
use Rattle.std.specs.Prelude as list
use Rattle.std.specs.FinMap as map
use Rattle.ak_address.specs.Uniques.{UniqueSet, in_order}

module _ {K : Type 0} where
  marked : List K → List (K × Unit {0})
  marked ks = list.map (λ k. (k, tt)) ks

  again : (es : List (K × Unit {0})) → marked (list.map (λ e. e.0) es) ≡ es
  unfolding marked
  again [] = refl
  again (e ∷ es) = λ i. e ∷ again es i

-- two sets that have the same processes in order are the same
pub same_in_order : (s t : UniqueSet) → in_order s ≡ in_order t → s ≡ t
same_in_order s t same = map.same_entries_map s t (sym (again (map.entries s)) ∙ ap marked same ∙ again (map.entries t))
