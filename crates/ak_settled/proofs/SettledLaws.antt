-- Who is needed and who is finished by a settled view, and what a note and a tick change of it.
use Rattle.std.proofs.Common.{◌≡◌, ◌≢◌, ◌↔◌, ℕ, ◌+◌, ◌≤◌, ◌==◌, min, Bool, true, false, not, cond, ◌⊎◌, inl, inr, IsTrue, List, [], ◌∷◌, map, Option, Some, None, is_some, IsSome, unwrap_or, option_map, Contains, refl, sym, ap, ◌∙◌, subst, arith, true≢false}
use Rattle.std.proofs.lemmas.Bool.{eqb-true, eq-eqb}
use Rattle.std.proofs.lemmas.Bool.Decides.{eqb_tells}
use Rattle.std.specs.List.{filter}
use Rattle.std.specs.FinMap as finmap
use Rattle.ak_address.specs.Unique.{UniqueModel}
use Rattle.ak_address.specs.Uniques.{has}
use Rattle.ak_address.specs.Counters.{Counters, counter, raised}
use Rattle.ak_address.proofs.TableLaws.{get-empty}
use Rattle.ak_address.proofs.UniquesLaws.{has-no_one}
use Rattle.ak_address.proofs.ChangedLaws.{get-changed, changed-empty}
use Rattle.ak_address.proofs.CountersLaws.{among, has-set_of, passes, among_passing, contained, is_among, get-with_each, raised_same}
use Rattle.ak_clock.specs.Version.{Counts}
use Rattle.ak_member.specs.declared.status.Status.{Status}
use Rattle.ak_member.specs.declared.status.Status.TheVariants.{Joining, WeaklyUp, Up, Leaving, Exiting, Down}
use Rattle.ak_member.specs.declared.standing.Standing.{Standing}
use Rattle.ak_member.specs.declared.standing.Standing.TheVariants.{Member, Buried}
use Rattle.ak_member.specs.Standing.{Standings, member_of, members_of, tombstone_of, as_tombstone}
use Rattle.ak_member.specs.Age.{counts, counted_pairs, least_pair, IsOldest}
use Rattle.ak_member.proofs.OldestLaws.{oldest_is}
use Rattle.ak_settled.specs.SettledView.{SettledView}
use Rattle.ak_settled.specs.Settled.{standings_of, counters_of, unconfirmed, unconfirmed_pairs, noted_as, ticked, ending, is_over, is_finished, has_risen, is_needed_as, needed, candidate, IsCounting}

-- ---- what the settled view says of one process
abbrev pub is_needed_by : ℕ → ℕ → Option Standing → Bool
is_needed_by margin ticks None = false
is_needed_by margin ticks (Some standing) = is_needed_as margin ticks standing

pub finished_at : (margin : ℕ) (settled : SettledView) (who : UniqueModel) → is_finished margin settled who ≡ is_over margin (counter (counters_of settled) who) (tombstone_of (finmap.get (standings_of settled) who))
finished_at margin None who = sym (ap (λ o. is_over margin (counter finmap.empty who) (tombstone_of o)) (get-empty who))
finished_at margin (Some noted) who = refl

needed_pair : (margin : ℕ) (counters : Counters) (who : UniqueModel) (o : Option Standing)
    → passes (λ (e : UniqueModel × Standing). is_needed_as margin (counter counters e.0) e.1) who o ≡ is_needed_by margin (counter counters who) o
needed_pair margin counters who None = refl
needed_pair margin counters who (Some x) = refl

pub needed_at : (margin : ℕ) (settled : SettledView) (who : UniqueModel) → has (needed margin settled) who ≡ is_needed_by margin (counter (counters_of settled) who) (finmap.get (standings_of settled) who)
needed_at margin None who = has-no_one who ∙ sym (ap (is_needed_by margin (counter finmap.empty who)) (get-empty who))
needed_at margin (Some noted) who =
    let p : UniqueModel × Standing → Bool = λ e. is_needed_as margin (counter noted.counters e.0) e.1 in
    has-set_of (map (λ (e : UniqueModel × Standing). e.0) (filter p (finmap.entries noted.standings))) who
    ∙ among_passing p noted.standings who
    ∙ needed_pair margin noted.counters who (finmap.get noted.standings who)

-- ---- needed or finished
known_joining : (margin ticks number : ℕ) (o : Option Standing) → member_of o ≡ Some (Joining, number) → (is_needed_by margin ticks o ≡ false) × (is_over margin ticks (tombstone_of o) ≡ false)
known_joining margin ticks number None is = absurd (true≢false (sym (ap is_some is)))
known_joining margin ticks number (Some (Buried confirmed)) is = absurd (true≢false (sym (ap is_some is)))
known_joining margin ticks number (Some (Member status other)) is = (ap (λ o. has_risen (unwrap_or {T = Status × ℕ} o (Up, 0)).0) is, refl)

risen : (status : Status) → status ≢ Joining → has_risen status ≡ true
risen Joining apart = absurd (apart refl)
risen WeaklyUp apart = refl
risen Up apart = refl
risen Leaving apart = refl
risen Exiting apart = refl
risen Down apart = refl

known_member : (margin ticks : ℕ) (status : Status) (number : ℕ) (o : Option Standing) → member_of o ≡ Some (status, number) → status ≢ Joining → (is_needed_by margin ticks o ≡ true) × (is_over margin ticks (tombstone_of o) ≡ false)
known_member margin ticks status number None is apart = absurd (true≢false (sym (ap is_some is)))
known_member margin ticks status number (Some (Buried confirmed)) is apart = absurd (true≢false (sym (ap is_some is)))
known_member margin ticks status number (Some (Member own other)) is apart = (ap (λ o. has_risen (unwrap_or {T = Status × ℕ} o (Up, 0)).0) is ∙ risen status apart, refl)

known_tombstone : (margin ticks : ℕ) (o : Option Standing) → IsSome (tombstone_of o) → is_needed_by margin ticks o ≡ not (is_over margin ticks (tombstone_of o))
known_tombstone margin ticks None is = absurd (true≢false (sym is))
known_tombstone margin ticks (Some (Member status number)) is = absurd (true≢false (sym is))
known_tombstone margin ticks (Some (Buried confirmed)) is = refl

module _ (margin : ℕ) (settled : SettledView) (who : UniqueModel) where
  pub joining : (number : ℕ) → member_of (finmap.get (standings_of settled) who) ≡ Some (Joining, number) → (has (needed margin settled) who ≡ false) × (is_finished margin settled who ≡ false)
  joining number is =
      let h = known_joining margin (counter (counters_of settled) who) number (finmap.get (standings_of settled) who) is in
      (needed_at margin settled who ∙ h.0, finished_at margin settled who ∙ h.1)

  pub member : (status : Status) (number : ℕ) → member_of (finmap.get (standings_of settled) who) ≡ Some (status, number) → status ≢ Joining → IsTrue (has (needed margin settled) who) × (is_finished margin settled who ≡ false)
  member status number is apart =
      let h = known_member margin (counter (counters_of settled) who) status number (finmap.get (standings_of settled) who) is apart in
      (needed_at margin settled who ∙ h.0, finished_at margin settled who ∙ h.1)

  pub tombstone : IsSome (tombstone_of (finmap.get (standings_of settled) who)) → has (needed margin settled) who ≡ not (is_finished margin settled who)
  tombstone is =
      needed_at margin settled who
      ∙ known_tombstone margin (counter (counters_of settled) who) (finmap.get (standings_of settled) who) is
      ∙ ap not (sym (finished_at margin settled who))

  pub unknown : finmap.get (standings_of settled) who ≡ None → (has (needed margin settled) who ≡ false) × (is_finished margin settled who ≡ false)
  unknown is = (
    needed_at margin settled who ∙ ap (is_needed_by margin (counter (counters_of settled) who)) is,
    finished_at margin settled who ∙ ap (λ o. is_over margin (counter (counters_of settled) who) (tombstone_of o)) is,
  )

  -- ---- finished
  over_means : (k : ℕ) (o : Option Bool) → is_over margin k o ≡ true → (confirmed : Bool) × (o ≡ Some confirmed) × (IsTrue confirmed ⊎ (k ≡ margin))
  over_means k None is = absurd (true≢false (sym is))
  over_means k (Some true) is = (true, refl, inl refl)
  over_means k (Some false) is = (false, refl, inr (eqb-true k margin is))

  pub finished_means : IsTrue (is_finished margin settled who)
      → (confirmed : Bool) × (tombstone_of (finmap.get (standings_of settled) who) ≡ Some confirmed) × (IsTrue confirmed ⊎ (counter (counters_of settled) who ≡ margin))
  finished_means is = over_means (counter (counters_of settled) who) (tombstone_of (finmap.get (standings_of settled) who)) (sym (finished_at margin settled who) ∙ is)

-- ---- the candidate
pub counts_risen : (status : Status) → counts status ≡ true → status ≢ Joining
counts_risen status is joining = true≢false (sym is ∙ ap counts joining)

no_tombstone : (o : Option Standing) (m : Status × ℕ) → member_of o ≡ Some m → tombstone_of o ≡ None
no_tombstone None m is = refl
no_tombstone (Some (Member status number)) m is = refl
no_tombstone (Some (Buried confirmed)) m is = absurd (true≢false (sym (ap is_some is)))

pub candidate_needed : (margin : ℕ) (settled : SettledView) (who : UniqueModel) → candidate settled ≡ Some who → IsTrue (has (needed margin settled) who) × (tombstone_of (finmap.get (standings_of settled) who) ≡ None)
candidate_needed margin None who is = absurd (true≢false (sym (ap is_some is)))
candidate_needed margin (Some noted) who is =
    let h : IsOldest noted.standings (Some who) = subst (IsOldest noted.standings) is (oldest_is noted.standings (least_pair (counted_pairs (members_of noted.standings))) refl) in
    let c = h.1 in
    ((member margin (Some noted) who c.0 h.0 c.1 (counts_risen c.0 c.2)).0, no_tombstone (finmap.get noted.standings who) (c.0, h.0) c.1)

-- ---- unconfirmed tombstones
unconfirmed_by_pair : (pairs : List (UniqueModel × Standing)) → unconfirmed_pairs pairs ≡ map (λ (e : UniqueModel × Standing). e.0) (filter (λ (e : UniqueModel × Standing). unwrap_or (option_map not (as_tombstone e.1)) false) pairs)
unconfirmed_by_pair [] = refl
unconfirmed_by_pair ((who, Member status number) ∷ pairs) = unconfirmed_by_pair pairs
unconfirmed_by_pair ((who, Buried true) ∷ pairs) = unconfirmed_by_pair pairs
unconfirmed_by_pair ((who, Buried false) ∷ pairs) = ap (λ l. who ∷ l) (unconfirmed_by_pair pairs)

unconfirmed_one : (who : UniqueModel) (o : Option Standing) → passes (λ (e : UniqueModel × Standing). unwrap_or (option_map not (as_tombstone e.1)) false) who o ≡ unwrap_or (option_map not (tombstone_of o)) false
unconfirmed_one who None = refl
unconfirmed_one who (Some x) = refl

pub among_unconfirmed : (s : Standings) (who : UniqueModel) → among who (unconfirmed s) ≡ unwrap_or (option_map not (tombstone_of (finmap.get s who))) false
among_unconfirmed s who =
    ap (among who) (unconfirmed_by_pair (finmap.entries s))
    ∙ among_passing (λ (e : UniqueModel × Standing). unwrap_or (option_map not (as_tombstone e.1)) false) s who
    ∙ unconfirmed_one who (finmap.get s who)

unconfirmed_is : (o : Option Bool) → unwrap_or (option_map not o) false ≡ true → o ≡ Some false
unconfirmed_is None is = absurd (true≢false (sym is))
unconfirmed_is (Some true) is = absurd (true≢false (sym is))
unconfirmed_is (Some false) is = refl

-- ---- a note
module _ (version : Counts) (s : Standings) (before : SettledView) (who : UniqueModel) where
  counter_noted : counter (counters_of (noted_as version s before)) who ≡ unwrap_or (cond (among who (unconfirmed s)) (Some (counter (counters_of before) who)) None) 0
  counter_noted =
      ap (λ o. unwrap_or o 0) (get-with_each (counters_of before) (unconfirmed s) finmap.empty who
      ∙ ap (cond (among who (unconfirmed s)) (Some (counter (counters_of before) who))) (get-empty who))

  pub kept_counter : tombstone_of (finmap.get s who) ≡ Some false → counter (counters_of (noted_as version s before)) who ≡ counter (counters_of before) who
  kept_counter is =
      counter_noted
      ∙ ap (λ b. unwrap_or (cond b (Some (counter (counters_of before) who)) None) 0) (among_unconfirmed s who ∙ ap (λ o. unwrap_or (option_map not o) false) is)

  present : (c : Counters) (margin : ℕ) → 1 ≤ margin → counter c who ≡ margin → finmap.contains_key c who ≡ true
  present c margin least is = by_get (finmap.get c who) is
    where
      by_get : (o : Option ℕ) → unwrap_or o 0 ≡ margin → is_some o ≡ true
      by_get None is = absurd (omega arith)
      by_get (Some n) is = refl

  noted_over : (margin : ℕ) → 1 ≤ margin → IsCounting margin before → (o : Option Bool) → tombstone_of (finmap.get s who) ≡ o → is_over margin (counter (counters_of (noted_as version s before)) who) o ≡ true
      → (o ≡ Some true) ⊎ (is_finished margin before who ≡ true)
  noted_over margin least counting None there over = absurd (true≢false (sym over))
  noted_over margin least counting (Some true) there over = inl refl
  noted_over margin least counting (Some false) there over =
      let at : counter (counters_of before) who ≡ margin = sym (kept_counter there) ∙ eqb-true _ margin over in
      inr (
      finished_at margin before who
      ∙ ap (is_over margin (counter (counters_of before) who)) (counting.unconfirmed who (present (counters_of before) margin least at))
      ∙ eq-eqb _ margin at)

  pub noted_finished : (margin : ℕ) → 1 ≤ margin → IsCounting margin before → IsTrue (is_finished margin (noted_as version s before) who)
      → (tombstone_of (finmap.get s who) ≡ Some true) ⊎ IsTrue (is_finished margin before who)
  noted_finished margin least counting is = noted_over margin least counting (tombstone_of (finmap.get s who)) refl is

-- ---- a tick
pub standings-ticked : (margin : ℕ) (settled : SettledView) → standings_of (ticked margin settled) ≡ standings_of settled
standings-ticked margin None = refl
standings-ticked margin (Some noted) = refl

counters-ticked : (margin : ℕ) (settled : SettledView) → counters_of (ticked margin settled) ≡ raised margin (counters_of settled)
counters-ticked margin None = sym (changed-empty (λ n. min (n + 1) margin))
counters-ticked margin (Some noted) = refl

abbrev ends : ℕ → Option ℕ → Bool
ends margin None = false
ends margin (Some n) = n + 1 == margin

module _ (margin : ℕ) (settled : SettledView) (who : UniqueModel) where
  abbrev kept : Option ℕ
  kept = finmap.get (counters_of settled) who

  abbrev after : Option ℕ → ℕ
  after k = unwrap_or (option_map (λ n. min (n + 1) margin) k) 0

  ticked_at : is_finished margin (ticked margin settled) who ≡ is_over margin (after kept) (tombstone_of (finmap.get (standings_of settled) who))
  ticked_at =
      finished_at margin (ticked margin settled) who
      ∙ ap (λ s. is_over margin (counter (counters_of (ticked margin settled)) who) (tombstone_of (finmap.get s who))) (standings-ticked margin settled)
      ∙ ap (λ c. is_over margin (counter c who) (tombstone_of (finmap.get (standings_of settled) who))) (counters-ticked margin settled)
      ∙ ap (λ k. is_over margin (unwrap_or k 0) (tombstone_of (finmap.get (standings_of settled) who))) (get-changed (λ n. min (n + 1) margin) (counters_of settled) who)

  ends_pair : (k : Option ℕ) → passes (λ (e : UniqueModel × ℕ). e.1 + 1 == margin) who k ≡ ends margin k
  ends_pair None = refl
  ends_pair (Some n) = refl

  among_ending : among who (ending margin settled) ≡ ends margin kept
  among_ending = among_passing (λ (e : UniqueModel × ℕ). e.1 + 1 == margin) (counters_of settled) who ∙ ends_pair kept

  forth : (k : Option ℕ) (o : Option Bool) → (is_some k ≡ true → o ≡ Some false) → unwrap_or k 0 ≤ margin → is_over margin (after k) o ≡ true → (is_over margin (unwrap_or k 0) o ≡ true) ⊎ (ends margin k ≡ true)
  forth None o there bound is = inl is
  forth (Some n) o there bound is =
      let reached : min (n + 1) margin ≡ margin = eqb-true _ margin (sym (ap (is_over margin (min (n + 1) margin)) (there refl)) ∙ is) in
      elim (eqb_tells (n + 1) margin) [
        | inl met ↦ inr met.0
        | inr unmet ↦ let apart = unmet.1 in inl (ap (is_over margin n) (there refl) ∙ eq-eqb n margin (omega arith))
      ]

  back_over : (k : Option ℕ) (o : Option Bool) → (is_some k ≡ true → o ≡ Some false) → is_over margin (unwrap_or k 0) o ≡ true → is_over margin (after k) o ≡ true
  back_over None o there is = is
  back_over (Some n) o there is =
      let reached : n ≡ margin = eqb-true n margin (sym (ap (is_over margin n) (there refl)) ∙ is) in
      ap (is_over margin (min (n + 1) margin)) (there refl) ∙ eq-eqb _ margin (omega arith)

  back_ended : (k : Option ℕ) (o : Option Bool) → (is_some k ≡ true → o ≡ Some false) → ends margin k ≡ true → is_over margin (after k) o ≡ true
  back_ended None o there is = absurd (true≢false (sym is))
  back_ended (Some n) o there is =
      let reached : n + 1 ≡ margin = eqb-true (n + 1) margin is in
      ap (is_over margin (min (n + 1) margin)) (there refl) ∙ eq-eqb _ margin (omega arith)

  not_yet : (k : Option ℕ) (o : Option Bool) → (is_some k ≡ true → o ≡ Some false) → ends margin k ≡ true → is_over margin (unwrap_or k 0) o ≡ false
  not_yet None o there is = absurd (true≢false (sym is))
  not_yet (Some n) o there is =
      let reached : n + 1 ≡ margin = eqb-true (n + 1) margin is in
      ap (is_over margin n) (there refl) ∙ elim (eqb_tells n margin) [ inl met ↦ let same = met.1 in absurd (omega arith) | inr unmet ↦ unmet.0 ]

  module _ (counting : IsCounting margin settled) where
    pub ticked_finished : IsTrue (is_finished margin (ticked margin settled) who) ↔ (IsTrue (is_finished margin settled who) ⊎ Contains (ending margin settled) who)
    ticked_finished =
        let o = tombstone_of (finmap.get (standings_of settled) who) in
        let before = finished_at margin settled who in (
          (λ is. elim (forth kept o (counting.unconfirmed who) (counting.bounded who) (sym ticked_at ∙ is)) [
            | inl over ↦ inl (before ∙ over)
            | inr ended ↦ inr (contained (ending margin settled) who (among_ending ∙ ended))
          ]),
          (λ either. ticked_at ∙ elim either as (λ _. is_over margin (after kept) o ≡ true) [
            | inl over ↦ back_over kept o (counting.unconfirmed who) (sym before ∙ over)
            | inr ended ↦ back_ended kept o (counting.unconfirmed who) (sym among_ending ∙ is_among (ending margin settled) who ended)
          ]),
        )

    pub ended_anew : Contains (ending margin settled) who → is_finished margin settled who ≡ false
    ended_anew ended = finished_at margin settled who ∙ not_yet kept (tombstone_of (finmap.get (standings_of settled) who)) (counting.unconfirmed who) (sym among_ending ∙ is_among (ending margin settled) who ended)

-- ---- counting goes on
pub counting_none : (margin : ℕ) → IsCounting margin None
counting_none margin = record {
  unconfirmed = λ who is. absurd (true≢false (sym is ∙ ap is_some (get-empty who)));
  bounded = λ who. let none : counter finmap.empty who ≡ 0 = ap (λ o. unwrap_or o 0) (get-empty who) in omega arith;
}

pub counting_noted : (margin : ℕ) (version : Counts) (s : Standings) (before : SettledView) → IsCounting margin before → IsCounting margin (noted_as version s before)
counting_noted margin version s before counting = record {
  unconfirmed = λ who is. unconfirmed_is (tombstone_of (finmap.get s who)) (sym (among_unconfirmed s who) ∙ there who is);
  bounded = λ who. subst (λ n. n ≤ margin) (sym (counter_noted version s before who)) (within (among who (unconfirmed s)) (counter (counters_of before) who) (counting.bounded who));
}
  where
    present_only : (b : Bool) (n : ℕ) → is_some (cond b (Some n) None) ≡ b
    present_only true n = refl
    present_only false n = refl

    there : (who : UniqueModel) → finmap.contains_key (counters_of (noted_as version s before)) who ≡ true → among who (unconfirmed s) ≡ true
    there who is =
        sym (ap is_some (get-with_each (counters_of before) (unconfirmed s) finmap.empty who
        ∙ ap (cond (among who (unconfirmed s)) (Some (counter (counters_of before) who))) (get-empty who))
        ∙ present_only (among who (unconfirmed s)) (counter (counters_of before) who))
        ∙ is

    within : (b : Bool) (n : ℕ) → n ≤ margin → unwrap_or (cond b (Some n) None) 0 ≤ margin
    within true n le = le
    within false n le = omega arith

pub counting_ticked : (margin : ℕ) (settled : SettledView) → IsCounting margin settled → IsCounting margin (ticked margin settled)
counting_ticked margin settled counting = record {
  unconfirmed = λ who is.
      ap (λ s. tombstone_of (finmap.get s who)) (standings-ticked margin settled)
      ∙ counting.unconfirmed who (sym (ap (λ c. finmap.contains_key c who) (counters-ticked margin settled) ∙ raised_same margin (counters_of settled) who) ∙ is);
  bounded = λ who. subst (λ n. n ≤ margin)
      (sym (ap (λ c. counter c who) (counters-ticked margin settled) ∙ ap (λ k. unwrap_or k 0) (get-changed (λ n. min (n + 1) margin) (counters_of settled) who)))
      (within (finmap.get (counters_of settled) who));
}
  where
    within : (k : Option ℕ) → unwrap_or (option_map (λ n. min (n + 1) margin) k) 0 ≤ margin
    within None = omega arith
    within (Some n) = omega arith
