-- The counted members that pass a test, along the pairs of a table: how many they are, which is the first, and which
-- members go down.
use Rattle.std.proofs.Common.{◌≡◌, ◌≢◌, ℕ, ◌+◌, ◌≤◌, Bool, true, false, cond, ◌&&◌, not, List, [], ◌∷◌, ◌++◌, length, drop, slice_get, Option, Some, None, option_map, option_to_list, refl, sym, ap, ◌∙◌, append_assoc, append-nil, length-append, arith}
use Rattle.std.specs.List.{filter}
use Rattle.ak_address.specs.Unique.{AddressModel, UniqueModel}
use Rattle.ak_member.specs.declared.effect.Effect.{Effect}
use Rattle.ak_member.specs.declared.effect.Effect.TheVariants.{Rise}
use Rattle.ak_member.specs.declared.status.Status.{Status}
use Rattle.ak_member.specs.declared.status.Status.TheVariants.{Down}
use Rattle.ak_member.specs.declared.standing.Standing.{Standing}
use Rattle.ak_member.specs.Standing.{is_down, member_pairs}
use Rattle.ak_member.specs.View.{View}
use Rattle.ak_member.proofs.MemberLemmas.{KeepsPairs, keeps_filtered, keeps_members, kept_pair, kept_at_end}
use Rattle.ak_member.proofs.CountedLaws.{KeepsProcess, filtered_process, role_among, keeps_role, role_process}
use Rattle.ak_reach.specs.Unreachable.{unreachable_members}
use Rattle.ak_downing.specs.Downing.{is_beside, all_downed}

-- ---- those on the side of the node
abbrev pub beside_pair : View → UniqueModel → UniqueModel × ℕ → Bool
beside_pair v me pair = is_beside (unreachable_members v) me pair.0

abbrev pub beside_among : List AddressModel → View → UniqueModel → List (UniqueModel × Standing) → List (UniqueModel × ℕ)
beside_among role v me pairs = filter (beside_pair v me) (role_among role pairs)

pub keeps_beside : (role : List AddressModel) (v : View) (me : UniqueModel) → KeepsPairs (beside_among role v me)
keeps_beside role v me = keeps_filtered (role_among role) (keeps_role role) (beside_pair v me)

pub beside_process : (role : List AddressModel) (v : View) (me : UniqueModel) → KeepsProcess (beside_among role v me)
beside_process role v me = filtered_process (role_among role) (role_process role) (beside_pair v me)

-- ---- how many pass a test
module _ (role : List AddressModel) (p : UniqueModel × ℕ → Bool) where
  abbrev left : List (UniqueModel × Standing) → ℕ → ℕ
  left es i = length (filter p (role_among role (drop i es)))

  one_passes : (r : UniqueModel × ℕ) (rs : List (UniqueModel × ℕ)) (b : Bool) → p r ≡ b → length (filter p (r ∷ rs)) ≡ cond b 1 0 + length (filter p rs)
  one_passes r rs true is = ap (λ b. length (cond b (r ∷ filter p rs) (filter p rs))) is ∙ omega arith
  one_passes r rs false is = ap (λ b. length (cond b (r ∷ filter p rs) (filter p rs))) is ∙ omega arith

  one_of : (es : List (UniqueModel × Standing)) (i : ℕ) (r : UniqueModel × ℕ) (b : Bool) → r ∷ [] ≡ role_among role (option_to_list (slice_get es i)) → p r ≡ b → left es i ≡ cond b 1 0 + left es (i + 1)
  one_of es i r b is test = ap (λ rs. length (filter p rs)) (kept_pair (role_among role) (keeps_role role) es i (Some r) is) ∙ one_passes r (role_among role (drop (i + 1) es)) b test

  pub passes : (es : List (UniqueModel × Standing)) (i n total : ℕ) (r : UniqueModel × ℕ) → r ∷ [] ≡ role_among role (option_to_list (slice_get es i)) → p r ≡ true → n + left es i ≡ total → n + 1 + left es (i + 1) ≡ total
  passes es i n total r is test so_far = let one = one_of es i r true is test in omega arith

  pub fails : (es : List (UniqueModel × Standing)) (i n total : ℕ) (r : UniqueModel × ℕ) → r ∷ [] ≡ role_among role (option_to_list (slice_get es i)) → p r ≡ false → n + left es i ≡ total → n + left es (i + 1) ≡ total
  fails es i n total r is test so_far = let one = one_of es i r false is test in omega arith

  pub nobody_there : (es : List (UniqueModel × Standing)) (i n total : ℕ) → [] ≡ role_among role (option_to_list (slice_get es i)) → n + left es i ≡ total → n + left es (i + 1) ≡ total
  nobody_there es i n total is so_far = ap (λ rs. n + length (filter p rs)) (sym (kept_pair (role_among role) (keeps_role role) es i None is)) ∙ so_far

  pub all_there : (es : List (UniqueModel × Standing)) (i n total : ℕ) → length es ≤ i → n + left es i ≡ total → n ≡ total
  all_there es i n total past so_far = let e = ap (λ rs. length (filter p rs)) (kept_at_end (role_among role) (keeps_role role) es i past) in omega arith

-- ---- the first counted one
abbrev pub first_left : List AddressModel → List (UniqueModel × Standing) → ℕ → Option UniqueModel
first_left role es i = option_map (λ (pair : UniqueModel × ℕ). pair.0) (slice_get (role_among role (drop i es)) 0)

abbrev first_of : List (UniqueModel × ℕ) → Option UniqueModel
first_of pairs = option_map (λ (pair : UniqueModel × ℕ). pair.0) (slice_get pairs 0)

pub first_here : (role : List AddressModel) (es : List (UniqueModel × Standing)) (i : ℕ) (r : UniqueModel × ℕ) → r ∷ [] ≡ role_among role (option_to_list (slice_get es i)) → first_left role es i ≡ Some r.0
first_here role es i r is = ap first_of (kept_pair (role_among role) (keeps_role role) es i (Some r) is)

pub first_later : (role : List AddressModel) (es : List (UniqueModel × Standing)) (i : ℕ) → [] ≡ role_among role (option_to_list (slice_get es i)) → first_left role es (i + 1) ≡ first_left role es i
first_later role es i is = ap first_of (sym (kept_pair (role_among role) (keeps_role role) es i None is))

pub no_first : (role : List AddressModel) (es : List (UniqueModel × Standing)) (i : ℕ) → length es ≤ i → first_left role es i ≡ None
no_first role es i past = ap first_of (kept_at_end (role_among role) (keeps_role role) es i past)

-- ---- those that go down
abbrev pub downed_among : (UniqueModel → Bool) → List (UniqueModel × Standing) → List Effect
downed_among test pairs = all_downed test (member_pairs pairs)

downed_append : (test : UniqueModel → Bool) (xs ys : List (UniqueModel × (Status × ℕ))) → all_downed test (xs ++ ys) ≡ all_downed test xs ++ all_downed test ys
downed_append test [] ys = refl
downed_append test (x ∷ xs) ys = next (test x.0 && not (is_down x.1.0)) (downed_append test xs ys)
  where
    next : (b : Bool) → all_downed test (xs ++ ys) ≡ all_downed test xs ++ all_downed test ys
        → cond b (Rise x.0 Down 0 ∷ all_downed test (xs ++ ys)) (all_downed test (xs ++ ys)) ≡ cond b (Rise x.0 Down 0 ∷ all_downed test xs) (all_downed test xs) ++ all_downed test ys
    next true h = ap (λ l. Rise x.0 Down 0 ∷ l) h
    next false h = h

keeps_downed : (test : UniqueModel → Bool) → KeepsPairs (downed_among test)
keeps_downed test = record { none = refl; more = λ x xs. ap (all_downed test) (keeps_members.more x xs) ∙ downed_append test (member_pairs (x ∷ [])) (member_pairs xs) }

pub downed_next : (test : UniqueModel → Bool) (es : List (UniqueModel × Standing)) (i : ℕ) (o : Option Effect) (effects total : List Effect) → option_to_list o ≡ downed_among test (option_to_list (slice_get es i))
    → effects ++ downed_among test (drop i es) ≡ total → (effects ++ option_to_list o) ++ downed_among test (drop (i + 1) es) ≡ total
downed_next test es i o effects total is so_far =
    append_assoc effects (option_to_list o) (downed_among test (drop (i + 1) es))
    ∙ ap (λ l. effects ++ l) (sym (kept_pair (downed_among test) (keeps_downed test) es i o is)) ∙ so_far

pub downed_end : (test : UniqueModel → Bool) (es : List (UniqueModel × Standing)) (i : ℕ) (effects total : List Effect) → length es ≤ i → effects ++ downed_among test (drop i es) ≡ total → effects ≡ total
downed_end test es i effects total past so_far = sym (ap (λ l. effects ++ l) (kept_at_end (downed_among test) (keeps_downed test) es i past) ∙ append-nil effects) ∙ so_far

-- where one goes down, there are effects
pub someone_downed : (test : UniqueModel → Bool) (es : List (UniqueModel × Standing)) (i : ℕ) (effect : Effect) (effects total : List Effect) → effect ∷ [] ≡ downed_among test (option_to_list (slice_get es i))
    → effects ++ downed_among test (drop i es) ≡ total → total ≢ []
someone_downed test es i effect effects total is so_far none =
    let many = ap length (downed_next test es i (Some effect) effects total is so_far ∙ none) in
    let all = length-append (effects ++ effect ∷ []) (downed_among test (drop (i + 1) es)) in
    let first = length-append effects (effect ∷ []) in
    absurd (omega arith)
