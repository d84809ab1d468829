-- The oldest of the counted members: found along the pairs, and what it is.
use Rattle.std.proofs.Common.{◌≡◌, ℕ, ◌<◌, ◌≤◌, true, false, cond, ltb, T, IsTrue, List, [], ◌∷◌, ◌++◌, Option, Some, None, option_map, ◌⊎◌, inl, inr, refl, sym, ap, ◌∙◌, subst, arith, true≢false}
use Rattle.std.proofs.lemmas.Bool.{ltb-true, ltb-false}
use Rattle.std.proofs.lemmas.Option.{same_Some, none-some}
use Rattle.std.specs.declared.cmp.Ordering.TheVariants.{Less}
use Rattle.std.specs.Ordering.{eq_by_cmp}
use Rattle.std.specs.FinMap as map
use Rattle.ak_address.specs.Unique.{UniqueModel, unique_cmp}
use Rattle.ak_address.proofs.OrderLemmas.{unique_total, unique_exact}
use Rattle.ak_address.proofs.Pairs.{first, second, find_below, below_at, index_of_found}
use Rattle.ak_address.proofs.TableLaws.{same_key, key_itself}
use Rattle.ak_member.specs.declared.status.Status.{Status}
use Rattle.ak_member.specs.declared.standing.Standing.{Standing}
use Rattle.ak_member.specs.declared.standing.Standing.TheVariants.{Member, Buried}
use Rattle.ak_member.specs.Standing.{Standings, as_member, member_of, member_pairs, members_of}
use Rattle.ak_member.specs.Age.{counts, counted_pairs, older_pair, least_pair, IsOldest}
use Rattle.ak_member.proofs.MemberLemmas.{KeepsPairs}

-- ---- along the pairs
-- the counted ones among the pairs of a table
abbrev pub counted_among : List (UniqueModel × Standing) → List (UniqueModel × ℕ)
counted_among pairs = counted_pairs (member_pairs pairs)

counted_more : (pair : UniqueModel × (Status × ℕ)) (pairs : List (UniqueModel × (Status × ℕ))) → counted_pairs (pair ∷ pairs) ≡ counted_pairs (pair ∷ []) ++ counted_pairs pairs
counted_more pair pairs = elim (counts pair.1.0) as (λ b. cond b ((pair.0, pair.1.1) ∷ counted_pairs pairs) (counted_pairs pairs) ≡ cond b ((pair.0, pair.1.1) ∷ []) [] ++ counted_pairs pairs) [ true ↦ refl | false ↦ refl ]

pub keeps_counted : KeepsPairs counted_among
keeps_counted = record { none = refl; more = more }
  where
    more : (x : UniqueModel × Standing) (xs : List (UniqueModel × Standing)) → counted_among (x ∷ xs) ≡ counted_among (x ∷ []) ++ counted_among xs
    more (who, Member status number) xs = counted_more (who, (status, number)) (member_pairs xs)
    more (who, Buried confirmed) xs = refl

-- ---- what it is
-- a counted member among these pairs, with its number
abbrev CountedIn : List (UniqueModel × Standing) → UniqueModel → ℕ → Type 0
CountedIn es who number = (status : Status) × (member_of (map.find unique_cmp who es) ≡ Some (status, number)) × IsTrue (counts status)

-- it is no younger than that
abbrev NoYounger : UniqueModel × ℕ → UniqueModel → ℕ → Type 0
NoYounger pair other later = (pair.1 < later) ⊎ ((pair.1 ≡ later) × ((other ≡ pair.0) ⊎ (unique_cmp pair.0 other ≡ Less)))

abbrev LeastIn : List (UniqueModel × Standing) → Option (UniqueModel × ℕ) → Type 0
LeastIn es None = (who : UniqueModel) (number : ℕ) → CountedIn es who number → ⊥
LeastIn es (Some pair) = CountedIn es pair.0 pair.1 × ((other : UniqueModel) (later : ℕ) → CountedIn es other later → NoYounger pair other later)

-- the member of a pair counts with this number
abbrev CountedAs : Standing → ℕ → Type 0
CountedAs x number = (status : Status) × (as_member x ≡ Some (status, number)) × IsTrue (counts status)

first_or_later : (e : UniqueModel × Standing) (es : List (UniqueModel × Standing)) (who : UniqueModel) (number : ℕ) → CountedIn (e ∷ es) who number → ((who ≡ e.0) × CountedAs e.1 number) ⊎ CountedIn es who number
first_or_later e es who number c =
    elim (eq_by_cmp unique_cmp who e.0) as (λ b. eq_by_cmp unique_cmp who e.0 ≡ b → member_of (cond b (Some e.1) (map.find unique_cmp who es)) ≡ Some (c.0, number) → ((who ≡ e.0) × CountedAs e.1 number) ⊎ CountedIn es who number) [
      | true ↦ λ tied is. inl (same_key who e.0 tied, (c.0, is, c.2))
      | false ↦ λ apart is. inr (c.0, is, c.2)
    ] refl c.1

in_first : (e : UniqueModel × Standing) (es : List (UniqueModel × Standing)) (number : ℕ) → CountedAs e.1 number → CountedIn (e ∷ es) e.0 number
in_first e es number c = (c.0, ap (λ b. member_of (cond b (Some e.1) (map.find unique_cmp e.0 es))) (key_itself e.0) ∙ c.1, c.2)

found_some : (a : Option Standing) (m : Status × ℕ) → member_of a ≡ Some m → (x : Standing) × (a ≡ Some x)
found_some None m is = absurd (none-some m is)
found_some (Some x) m is = (x, refl)

above_first : (e : UniqueModel × Standing) (es : List (UniqueModel × Standing)) (who : UniqueModel) (number : ℕ) → T (map.is_sorted unique_cmp (e ∷ es)) → CountedIn es who number → unique_cmp e.0 who ≡ Less
above_first e es who number h c =
    let x = found_some (map.find unique_cmp who es) (c.0, number) c.1 in
    let p = index_of_found unique_cmp unique_exact who x.0 es x.1 in
    below_at unique_cmp unique_total e.0 es p.0 (who, x.0) (first _ _ h) p.1

in_later : (e : UniqueModel × Standing) (es : List (UniqueModel × Standing)) (who : UniqueModel) (number : ℕ) → T (map.is_sorted unique_cmp (e ∷ es)) → CountedIn es who number → CountedIn (e ∷ es) who number
in_later e es who number h c =
    elim (eq_by_cmp unique_cmp who e.0) as (λ b. eq_by_cmp unique_cmp who e.0 ≡ b → CountedIn (e ∷ es) who number) [
      | true ↦ λ tied.
          let none : map.find unique_cmp who es ≡ None = ap (λ k. map.find unique_cmp k es) (same_key who e.0 tied) ∙ find_below unique_cmp unique_total e.0 es (first _ _ h) in
          absurd (none-some (c.0, number) (sym (ap member_of none) ∙ c.1))
      | false ↦ λ apart. (c.0, ap (λ b. member_of (cond b (Some e.1) (map.find unique_cmp who es))) apart ∙ c.1, c.2)
    ] refl

-- a pair that does not count
passed : (e : UniqueModel × Standing) (es : List (UniqueModel × Standing)) (r : Option (UniqueModel × ℕ)) → T (map.is_sorted unique_cmp (e ∷ es)) → ((number : ℕ) → CountedAs e.1 number → ⊥) → LeastIn es r → LeastIn (e ∷ es) r
passed e es None h never rest = λ who number c. elim (first_or_later e es who number c) [ inl here ↦ never number here.1 | inr later ↦ rest who number later ]
passed e es (Some pair) h never rest =
    (in_later e es pair.0 pair.1 h rest.0, λ other later c. elim (first_or_later e es other later c) [ inl here ↦ absurd (never later here.1) | inr after ↦ rest.1 other later after ])

one_number : (x : Standing) (m n : ℕ) → CountedAs x m → CountedAs x n → m ≡ n
one_number x m n a b = ap (λ p. p.1) (same_Some (a.0, m) (b.0, n) (sym a.1 ∙ b.1))

-- a pair that counts
chosen : (e : UniqueModel × Standing) (es : List (UniqueModel × Standing)) (number : ℕ) (r : Option (UniqueModel × ℕ)) → T (map.is_sorted unique_cmp (e ∷ es)) → CountedAs e.1 number → LeastIn es r → LeastIn (e ∷ es) (older_pair (e.0, number) r)
chosen e es number None h is rest = (
  in_first e es number is,
  λ other later c.
      elim (first_or_later e es other later c) [
        | inl here ↦ inr (one_number e.1 number later is here.1, inl here.0)
        | inr after ↦ absurd (rest other later after)
      ],
)
chosen e es number (Some pair) h is rest =
    elim (ltb pair.1 number) as (λ b. ltb pair.1 number ≡ b → LeastIn (e ∷ es) (cond b (Some pair) (Some (e.0, number)))) [
      | true ↦ λ less.
          let lt = ltb-true pair.1 number less in (
            in_later e es pair.0 pair.1 h rest.0,
            λ other later c.
                elim (first_or_later e es other later c) [
                  | inl here ↦ let same = one_number e.1 number later is here.1 in inl (omega arith)
                  | inr after ↦ rest.1 other later after
                ],
          )
      | false ↦ λ more.
          let le = ltb-false pair.1 number more in (
            in_first e es number is,
            λ other later c.
                elim (first_or_later e es other later c) [
                  | inl here ↦ inr (one_number e.1 number later is here.1, inl here.0)
                  | inr after ↦ no_younger (e.0, number) pair other later le (above_first e es other later h after) (rest.1 other later after)
                ],
          )
    ] refl
  where
    no_younger : (one pair : UniqueModel × ℕ) (other : UniqueModel) (later : ℕ) → one.1 ≤ pair.1 → unique_cmp one.0 other ≡ Less → NoYounger pair other later → NoYounger one other later
    no_younger one pair other later le above (inl less) = inl (omega arith)
    no_younger one pair other later le above (inr same) =
        elim (ltb one.1 later) as (λ b. ltb one.1 later ≡ b → NoYounger one other later) [
          | true ↦ λ less. inl (ltb-true one.1 later less)
          | false ↦ λ not_less. let ge = ltb-false one.1 later not_less in let e = same.0 in inr (omega arith, inr above)
        ] refl

least_in : (es : List (UniqueModel × Standing)) → T (map.is_sorted unique_cmp es) → LeastIn es (least_pair (counted_among es))
least_in [] h = λ who number c. none-some (c.0, number) c.1
least_in ((k, Buried confirmed) ∷ es) h =
    passed (k, Buried confirmed) es _ h (λ number c. none-some (c.0, number) c.1) (least_in es (second _ _ h))
least_in ((k, Member status number) ∷ es) h =
    elim (counts status) as (λ b. counts status ≡ b → LeastIn ((k, Member status number) ∷ es) (least_pair (cond b ((k, number) ∷ counted_among es) (counted_among es)))) [
      | true ↦ λ is. chosen (k, Member status number) es number _ h (status, refl, is) (least_in es (second _ _ h))
      | false ↦ λ is.
          passed (k, Member status number) es _ h
          (λ other c. true≢false (sym c.2 ∙ ap counts (ap (λ p. p.0) (same_Some (c.0, other) (status, number) (sym c.1))) ∙ is))
          (least_in es (second _ _ h))
    ] refl

told : (s : Standings) (r : Option (UniqueModel × ℕ)) → LeastIn (map.entries s) r → IsOldest s (option_map (λ pair. pair.0) r)
told s None none = λ who number c. none who number (c.0, ap member_of (sym (map.get-entries s who)) ∙ c.1, c.2)
told s (Some pair) is =
    let mine = is.0 in
    (pair.1, (mine.0, ap member_of (map.get-entries s pair.0) ∙ mine.1, mine.2), λ other later c. is.1 other later (c.0, ap member_of (sym (map.get-entries s other)) ∙ c.1, c.2))

-- the member of the pair that was found is the oldest of those that count
pub oldest_is : (s : Standings) (r : Option (UniqueModel × ℕ)) → r ≡ least_pair (counted_pairs (members_of s)) → IsOldest s (option_map (λ pair. pair.0) r)
oldest_is s r is = told s r (subst (LeastIn (map.entries s)) (sym is) (least_in (map.entries s) (map.entries_sorted s)))
