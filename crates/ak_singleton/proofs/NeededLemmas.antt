-- Whom a node needs, by a walk along the pairs of the settled view.
use Rattle.std.proofs.Common.{◌≡◌, ◌≢◌, ℕ, Bool, true, false, not, ◌&&◌, ◌||◌, ◌+◌, ◌<◌, ◌≤◌, length, All, IsTrue, cond, map, arith, List, [], ◌∷◌, drop, slice_get, option_to_list, Option, None, Some, refl, sym, ap, ◌∙◌, true≢false}
use Rattle.std.specs.FinMap as finmap
use Rattle.std.specs.List.{filter, fold, list_all}
use Rattle.std.proofs.lemmas.Bool.{and_parts}
use Rattle.ak_address.specs.Unique.{UniqueModel}
use Rattle.ak_address.specs.Counters.{counter}
use Rattle.ak_address.specs.Uniques.{UniqueSet, no_one, has, with_one, those, in_order, set_of}
use Rattle.ak_address.proofs.CountersLaws.{among, is_among, contained, among-filter, has-set_of, has-walked}
use Rattle.ak_address.proofs.Elements.{all_there, all_from}
use Rattle.ak_address.proofs.TableLaws.{key_itself, entries-empty, get_at}
use Rattle.ak_address.proofs.UniquesLaws.{has-no_one, has-those, same_uniques}
use Rattle.ak_address.proofs.BoolLemmas.{not_false, or_true}
use Rattle.ak_member.specs.Standing.{tombstone_of}
use Rattle.ak_member.specs.declared.standing.Standing.{Standing}
use Rattle.ak_member.proofs.MemberLemmas.{KeepsPairs, kept_pair, kept_at_end}
use Rattle.ak_member.proofs.Folds.{keeps_filtered}
use Rattle.ak_settled.proofs.SettledLemmas.{keeps_needed}
use Rattle.ak_settled.specs.SettledView.{SettledView}
use Rattle.ak_settled.specs.Settled.{standings_of, counters_of, is_over, is_finished, is_needed_as, needed_pairs, needed}
use Rattle.ak_settled.proofs.SettledLaws.{finished_at}
use Rattle.ak_singleton.specs.Singleton.{needed_but}

-- those that are needed among these pairs, and are none of the others
abbrev pub kept_but : ℕ → SettledView → UniqueSet → List (UniqueModel × Standing) → List UniqueModel
kept_but margin settled others pairs = filter (λ who. not (has others who)) (needed_pairs margin (counters_of settled) pairs)

pub keeps_but : (margin : ℕ) (settled : SettledView) (others : UniqueSet) → KeepsPairs (kept_but margin settled others)
keeps_but margin settled others = keeps_filtered (needed_pairs margin (counters_of settled)) (keeps_needed margin (counters_of settled)) (λ who. not (has others who))

-- the set of what passes a test
set_of_kept : (p : UniqueModel → Bool) (xs : List UniqueModel) → set_of (filter p xs) ≡ those (set_of xs) p
set_of_kept p xs = same_uniques (set_of (filter p xs)) (those (set_of xs) p) (λ q.
    has-set_of (filter p xs) q
    ∙ among-filter p xs q
    ∙ ap (λ b. b && p q) (sym (has-set_of xs q))
    ∙ sym (has-those (set_of xs) p q))

needed_is : (margin : ℕ) (settled : SettledView) → set_of (needed_pairs margin (counters_of settled) (finmap.entries (standings_of settled))) ≡ needed margin settled
needed_is margin None = ap (λ es. set_of (needed_pairs margin finmap.empty es)) entries-empty
needed_is margin (Some noted) = refl

-- those that are needed and are none of the others
pub left_is : (margin : ℕ) (settled : SettledView) (others : UniqueSet)
    → set_of (kept_but margin settled others (finmap.entries (standings_of settled))) ≡ needed_but margin settled others
left_is margin settled others =
    set_of_kept (λ who. not (has others who)) (needed_pairs margin (counters_of settled) (finmap.entries (standings_of settled)))
    ∙ ap (λ s. those s (λ who. not (has others who))) (needed_is margin settled)

none_below : (k : ℕ) → k < 0 → ⊥
none_below k lt = omega (arith, lt)

-- a walk that comes to one that it has not yet finds somebody
pub somebody_left : {X : Type 0} (kept : List X → List UniqueModel) (k : KeepsPairs kept) (xs : List X) (i : ℕ) (s all : UniqueSet) (o : Option UniqueModel)
    → option_to_list o ≡ kept (option_to_list (slice_get xs i)) → fold with_one s (kept (drop i xs)) ≡ all → (All (λ one. IsTrue (has s one)) (option_to_list o) → ⊥) → all ≢ no_one
somebody_left kept k xs i s all None is so_far missing none = missing (λ k d lt. absurd (none_below k lt))
somebody_left kept k xs i s all (Some u) is so_far missing none =
    true≢false (
    sym (
    ap (λ t. has t u) (sym so_far)
    ∙ has-walked s (kept (drop i xs)) u
    ∙ ap (λ l. has s u || among u l) (kept_pair kept k xs i (Some u) is)
    ∙ ap (λ b. has s u || (b || among u (kept (drop (i + 1) xs)))) (key_itself u)
    ∙ or_true (has s u)
    )
    ∙ ap (λ t. has t u) none
    ∙ has-no_one u
    )

-- a pair of the view whose process is needed, by what is known of it and whether it is finished
pub needed_pair : (margin : ℕ) (settled : SettledView) (i : ℕ) (who : UniqueModel) (standing : Standing) (finished needs : Bool) → slice_get (finmap.entries (standings_of settled)) i ≡ Some (who, standing)
    → finished ≡ is_finished margin settled who → ((margin ticks : ℕ) → finished ≡ is_over margin ticks (tombstone_of (Some standing)) → needs ≡ is_needed_as margin ticks standing)
    → cond needs (who ∷ []) [] ≡ needed_pairs margin (counters_of settled) (option_to_list (slice_get (finmap.entries (standings_of settled)) i))
needed_pair margin settled i who standing finished needs is fin says =
    let ticks = counter (counters_of settled) who in
    let over : finished ≡ is_over margin ticks (tombstone_of (Some standing)) = fin ∙ finished_at margin settled who ∙ ap (λ s. is_over margin ticks (tombstone_of s)) (get_at (standings_of settled) i (who, standing) is) in
    ap (λ b. cond b (who ∷ []) []) (says margin ticks over)
    ∙ go (is_needed_as margin ticks standing)
    ∙ ap (λ o. needed_pairs margin (counters_of settled) (option_to_list o)) (sym is)
  where
    go : (b : Bool) → cond b (who ∷ []) [] ≡ map (λ (e : UniqueModel × Standing). e.0) (cond b ((who, standing) ∷ []) [])
    go true = refl
    go false = refl

-- ---- whether each that is needed is one of the others
all_when_none : (others s : UniqueSet) → those s (λ who. not (has others who)) ≡ no_one → list_all (has others) (in_order s) ≡ true
all_when_none others s none = all_from (has others) (in_order s) (λ who there.
    let there_too : has s who ≡ true = finmap.contains_key-keys s who ∙ is_among (in_order s) who there in
    not_false (has others who) (
    ap (λ b. b && not (has others who)) (sym there_too)
    ∙ sym (has-those s (λ who. not (has others who)) who)
    ∙ ap (λ t. has t who) none
    ∙ has-no_one who
    ))

not_all : (others s : UniqueSet) (u : UniqueModel) → has (those s (λ who. not (has others who))) u ≡ true → list_all (has others) (in_order s) ≡ false
not_all others s u there = go (list_all (has others) (in_order s)) refl
  where
    go : (b : Bool) → list_all (has others) (in_order s) ≡ b → b ≡ false
    go false is = refl
    go true is =
        let parts = and_parts (has s u) (not (has others u)) (sym (has-those s (λ who. not (has others who)) u) ∙ there) in
        let given = all_there (has others) (in_order s) u is (contained (in_order s) u (sym (finmap.contains_key-keys s u) ∙ parts.0)) in
        sym (sym (ap not given) ∙ parts.1)

module _ (margin : ℕ) (settled : SettledView) (others : UniqueSet) where
  -- the pairs before an index have nobody else
  abbrev pub NobodyBefore : ℕ → Type 0
  NobodyBefore i = kept_but margin settled others (drop i (finmap.entries (standings_of settled))) ≡ kept_but margin settled others (finmap.entries (standings_of settled))

  pub nobody_more : (i : ℕ) → [] ≡ kept_but margin settled others (option_to_list (slice_get (finmap.entries (standings_of settled)) i)) → NobodyBefore i → NobodyBefore (i + 1)
  nobody_more i is so_far = sym (kept_pair (kept_but margin settled others) (keeps_but margin settled others) (finmap.entries (standings_of settled)) i None is) ∙ so_far

  pub somebody_else : (i : ℕ) (u : UniqueModel) → u ∷ [] ≡ kept_but margin settled others (option_to_list (slice_get (finmap.entries (standings_of settled)) i)) → NobodyBefore i
      → false ≡ list_all (has others) (in_order (needed margin settled))
  somebody_else i u is so_far =
      let rest = kept_but margin settled others (drop (i + 1) (finmap.entries (standings_of settled))) in
      let first : kept_but margin settled others (finmap.entries (standings_of settled)) ≡ u ∷ rest =
      sym so_far ∙ kept_pair (kept_but margin settled others) (keeps_but margin settled others) (finmap.entries (standings_of settled)) i (Some u) is in
      sym (not_all others (needed margin settled) u (
      ap (λ t. has t u) (sym (left_is margin settled others))
      ∙ has-set_of (kept_but margin settled others (finmap.entries (standings_of settled))) u
      ∙ ap (among u) first
      ∙ ap (λ b. b || among u rest) (key_itself u)
      ))

  pub nobody_else : (i : ℕ) → length (finmap.entries (standings_of settled)) ≤ i → NobodyBefore i → true ≡ list_all (has others) (in_order (needed margin settled))
  nobody_else i past so_far =
      sym (all_when_none others (needed margin settled) (
      sym (left_is margin settled others)
      ∙ ap set_of (sym so_far ∙ kept_at_end (kept_but margin settled others) (keeps_but margin settled others) (finmap.entries (standings_of settled)) i past)
      ))
