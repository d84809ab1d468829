-- Candidates along the pairs of a table, and the one of a list that a word chooses.
use Rattle.std.proofs.Common.{◌≡◌, ℕ, ◌<◌, ◌%◌, Bool, true, false, cond, not, ◌&&◌, List, [], ◌∷◌, map, length, Option, Some, None, is_some, inl, inr, refl, sym, ap, ◌∙◌, arith, true≢false}
use Rattle.std.proofs.Math.Nat.{mod-lt}
use Rattle.std.proofs.lemmas.Option.{slice_get_cases}
use Rattle.std.specs.FinMap as finmap
use Rattle.std.specs.List.{filter}
use Rattle.ak_address.specs.Unique.{UniqueModel}
use Rattle.ak_address.specs.Uniques.{UniqueSet, has}
use Rattle.ak_member.specs.declared.status.Status.{Status}
use Rattle.ak_member.specs.declared.standing.Standing.{Standing}
use Rattle.ak_member.specs.Standing.{member_pairs}
use Rattle.ak_member.specs.View.{View}
use Rattle.ak_member.proofs.MemberLemmas.{KeepsPairs, keeps_members, keeps_mapped, keeps_filtered}
use Rattle.ak_select.specs.Select.{is_reachable_other, reachable_others, unless_empty, chosen, peer}
use Rattle.ak_select.specs.Walk.{is_passed_over, others_among, candidates_among}

pub keeps_candidates : (v : View) (me : UniqueModel) (seen : Option UniqueSet) → KeepsPairs (candidates_among v me seen)
keeps_candidates v me seen =
    keeps_filtered (others_among v me)
    (keeps_filtered (λ pairs. map (λ (pair : UniqueModel × (Status × ℕ)). pair.0) (member_pairs pairs)) (keeps_mapped member_pairs keeps_members (λ (pair : UniqueModel × (Status × ℕ)). pair.0)) (is_reachable_other v me))
    (λ who. not (is_passed_over seen who))

-- the candidate of a pair at which a member stands
pub candidate_is : (v : View) (me : UniqueModel) (seen : Option UniqueSet) (pairs : List (UniqueModel × Standing)) (m : UniqueModel × (Status × ℕ)) (reached passed : Bool) → m ∷ [] ≡ member_pairs pairs
    → reached ≡ is_reachable_other v me m.0 → passed ≡ is_passed_over seen m.0 → cond (reached && not passed) (m.0 ∷ []) [] ≡ candidates_among v me seen pairs
candidate_is v me seen pairs m reached passed is reach pass =
    by_case reached
    ∙ ap (λ b. filter (λ who. not (is_passed_over seen who)) (cond b (m.0 ∷ []) [])) reach
    ∙ ap (λ l. filter (λ who. not (is_passed_over seen who)) (filter (is_reachable_other v me) (map (λ (pair : UniqueModel × (Status × ℕ)). pair.0) l))) is
  where
    by_case : (b : Bool) → cond (b && not passed) (m.0 ∷ []) [] ≡ filter (λ who. not (is_passed_over seen who)) (cond b (m.0 ∷ []) [])
    by_case true = ap (λ p. cond (not p) (m.0 ∷ []) []) pass
    by_case false = refl

-- ---- the chosen one

pub somebody_chosen : (word : ℕ) (xs : List UniqueModel) → 0 < length xs → (x : UniqueModel) × (chosen word xs ≡ Some x)
somebody_chosen word xs some = elim (slice_get_cases xs (word % length xs)).1 [
  | inl there ↦ (there.0, there.2)
  | inr past ↦ let lt = mod-lt word {m = length xs} some in let le = past.0 in absurd (omega arith)
]

-- ---- some first, else all

second_chosen : (word : ℕ) (unseen others : List UniqueModel) → None ≡ chosen word unseen → chosen word others ≡ chosen word (unless_empty unseen others)
second_chosen word [] others none = refl
second_chosen word (x ∷ unseen) others none =
    let some = somebody_chosen word (x ∷ unseen) (omega arith) in
    absurd (true≢false (sym (ap is_some (none ∙ some.1))))

all_pass : (xs : List UniqueModel) → filter (λ who. not (is_passed_over None who)) xs ≡ xs
all_pass [] = refl
all_pass (x ∷ xs) = ap (λ l. x ∷ l) (all_pass xs)

pub peer_seen : (word : ℕ) (v : View) (seen : UniqueSet) (me : UniqueModel) → None ≡ chosen word (candidates_among v me (Some seen) (finmap.entries v.standings))
    → chosen word (candidates_among v me None (finmap.entries v.standings)) ≡ peer word v seen me
peer_seen word v seen me none =
    ap (chosen word) (all_pass (reachable_others v me))
    ∙ second_chosen word (filter (λ who. not (has seen who)) (reachable_others v me)) (reachable_others v me) none
