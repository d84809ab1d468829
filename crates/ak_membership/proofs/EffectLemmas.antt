-- Whether a list has an effect.
use Rattle.std.proofs.Common.{◌≡◌, ◌≢◌, ℕ, ◌+◌, Bool, true, List, [], ◌∷◌, ◌++◌, length, drop, slice_get, option_to_list, Some, refl, ap, ◌∙◌, length-append, arith}
use Rattle.ak_address.specs.Unique.{UniqueModel}
use Rattle.ak_member.specs.declared.effect.Effect.{Effect}
use Rattle.ak_member.specs.declared.standing.Standing.{Standing}
use Rattle.ak_downing.proofs.SideLemmas.{downed_among, downed_next}
use Rattle.ak_membership.specs.Tick.{has_effect}

pub effect_there : (xs : List Effect) → xs ≢ [] → has_effect xs ≡ true
effect_there [] some = absurd (some refl)
effect_there (x ∷ xs) some = refl

-- where a member at a pair goes Down, there is an effect
pub some_downed : (test : UniqueModel → Bool) (es : List (UniqueModel × Standing)) (i : ℕ) (one : Effect) (so_far total : List Effect) → one ∷ [] ≡ downed_among test (option_to_list (slice_get es i))
    → so_far ++ downed_among test (drop i es) ≡ total → total ≢ []
some_downed test es i one so_far total is before none =
    let rest = downed_among test (drop (i + 1) es) in
    let whole : (so_far ++ one ∷ []) ++ rest ≡ [] = downed_next test es i (Some one) so_far total is before ∙ none in
    absurd (omega (arith, ap length whole, length-append (so_far ++ one ∷ []) rest, length-append so_far (one ∷ [])))
