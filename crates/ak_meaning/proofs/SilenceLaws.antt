-- A watched process is silent exactly where more ticks than the deadline have passed since it was first watched or last heard.
use Rattle.std.proofs.Common.{◌≡◌, ◌↔◌, ◌⊎◌, inl, inr, ◌&&◌, ◌||◌, ℕ, ◌+◌, ◌<◌, min, Bool, true, false, cond, nat_lt, if◌then◌else◌, IsTrue, List, [], ◌∷◌, ◌++◌, Option, Some, None, is_some, unwrap_or, option_map, Contains, refl, sym, ap, ◌∙◌, subst, arith, true≢false, append_assoc, append-nil}
use Rattle.std.proofs.lemmas.Bool.{ltb-true, lt-ltb}
use Rattle.std.specs.FinMap as finmap
use Rattle.std.specs.Ordering.{eq_by_cmp}
use Rattle.ak_address.specs.Counters.{Counters, counter}
use Rattle.ak_address.specs.Unique.{UniqueModel, unique_cmp}
use Rattle.ak_address.specs.Uniques.{has}
use Rattle.ak_address.proofs.ChangedLaws.{get-changed, has-keys_of}
use Rattle.ak_address.proofs.Elements.{contains_first, contains_rest, first_or_rest, contains_nothing, contains_either}
use Rattle.ak_address.proofs.TableLaws.{key_itself, same_key, get-empty, get-insert, get-insert_here}
use Rattle.ak_member.specs.Standing.{Standings, is_member}
use Rattle.ak_detector.specs.Detector.{watch_ring, watching, heard, ticked, silent}
use Rattle.ak_detector.proofs.DetectorLaws as detector
use Rattle.ak_detector.proofs.DetectorLaws.{kept_counter, ticked_same}
use Rattle.ak_detector.proofs.DetectorLemmas.{is_silent_by, has-silent, keys-heard}
use Rattle.ak_meaning.specs.Ring.{Happening, Watches, Hears, Ticks, after_one, listening, heard_of, IsWatched, IsSilent, ticks_in, Begins, IsLast, HasLast}

watched_in : UniqueModel → Counters → Bool
watched_in who c = finmap.contains_key c who

module _ (me : UniqueModel) (deadline : ℕ) where
  pub after_both : (c : Counters) (xs ys : List Happening) → listening me deadline c (xs ++ ys) ≡ listening me deadline (listening me deadline c xs) ys
  after_both c [] ys = refl
  after_both c (x ∷ xs) ys = after_both (after_one me deadline c x) xs ys

  module _ (who : UniqueModel) where
    -- ---- one counter
    heard_other : (other : UniqueModel) (c : Counters) → (other ≡ who → ⊥) → counter (heard other c) who ≡ counter c who
    heard_other other c apart = by_presence (finmap.contains_key c other)
      where
        by_key : (t : Bool) → eq_by_cmp unique_cmp who other ≡ t → unwrap_or (cond t (Some 0) (finmap.get c who)) 0 ≡ unwrap_or (finmap.get c who) 0
        by_key true tied = absurd (apart (sym (same_key who other tied)))
        by_key false tied = refl

        by_presence : (b : Bool) → counter (if b then finmap.insert c other 0 else c) who ≡ counter c who
        by_presence true = ap (λ o. unwrap_or o 0) (get-insert c other 0 who) ∙ by_key (eq_by_cmp unique_cmp who other) refl
        by_presence false = refl

    ticked_counter : (c : Counters) → finmap.contains_key c who ≡ true → counter (ticked deadline c) who ≡ min (counter c who + 1) (deadline + 1)
    ticked_counter c there = ap (λ o. unwrap_or o 0) (get-changed (λ n. min (n + 1) (deadline + 1)) c who) ∙ by_value (finmap.get c who) there
      where
        by_value : (o : Option ℕ) → is_some o ≡ true → unwrap_or (option_map (λ n. min (n + 1) (deadline + 1)) o) 0 ≡ min (unwrap_or o 0 + 1) (deadline + 1)
        by_value (Some n) there = refl
        by_value None there = absurd (true≢false (sym there))

    heard_watched : (other : UniqueModel) (c : Counters) → finmap.contains_key (heard other c) who ≡ finmap.contains_key c who
    heard_watched other c = sym (has-keys_of (heard other c) who) ∙ ap (λ t. has t who) (keys-heard other c) ∙ has-keys_of c who

    silent_means : (c : Counters) → finmap.contains_key c who ≡ true → has (silent deadline c) who ≡ nat_lt deadline (counter c who)
    silent_means c there = has-silent deadline c who ∙ by_value (finmap.get c who) there
      where
        by_value : (o : Option ℕ) → is_some o ≡ true → is_silent_by deadline o ≡ nat_lt deadline (unwrap_or o 0)
        by_value (Some n) there = refl
        by_value None there = absurd (true≢false (sym there))

    not_watched : (c : Counters) → finmap.contains_key c who ≡ false → counter c who ≡ 0
    not_watched c none = by_value (finmap.get c who) none
      where
        by_value : (o : Option ℕ) → is_some o ≡ false → unwrap_or o 0 ≡ 0
        by_value (Some n) none = absurd (true≢false none)
        by_value None none = refl

    -- ---- what came since
    abbrev Stays : Counters → List Happening → Type 0
    Stays c since = (some rest : List Happening) → since ≡ some ++ rest → IsTrue (finmap.contains_key (listening me deadline c some) who)

    since_counted : (since : List Happening) (c : Counters) (n : ℕ) → counter c who ≡ min n (deadline + 1) → Stays c since → (Contains since (Hears who) → ⊥)
        → counter (listening me deadline c since) who ≡ min (n + ticks_in since) (deadline + 1)
    since_counted [] c n is stays unheard = omega arith
    since_counted (Watches s ∷ since) c n is stays unheard =
        since_counted since (watching me s deadline c) n (kept_counter me s deadline c who (stays (Watches s ∷ []) since refl) ∙ is)
        (λ some rest parts. stays (Watches s ∷ some) rest (ap (λ l. Watches s ∷ l) parts)) (λ there. unheard (contains_rest (Watches s) (Hears who) since there))
    since_counted (Hears other ∷ since) c n is stays unheard =
        since_counted since (heard other c) n
        (heard_other other c (λ same. unheard (subst (λ u. Contains (Hears other ∷ since) (Hears u)) same (contains_first (Hears other) since))) ∙ is)
        (λ some rest parts. stays (Hears other ∷ some) rest (ap (λ l. Hears other ∷ l) parts)) (λ there. unheard (contains_rest (Hears other) (Hears who) since there))
    since_counted (Ticks ∷ since) c n is stays unheard =
        let one = ticked_counter c (stays [] (Ticks ∷ since) refl) in
        let rest = since_counted since (ticked deadline c) (n + 1) (let same = is in omega arith)
        (λ some rest parts. stays (Ticks ∷ some) rest (ap (λ l. Ticks ∷ l) parts)) (λ there. unheard (contains_rest Ticks (Hears who) since there)) in
        omega arith

    -- ---- with the last that began it the counter is 0
    zero_at : (before : List Happening) (h : Happening) → Begins me deadline before h who → counter (heard_of me deadline (before ++ h ∷ [])) who ≡ 0
    zero_at before h begins = ap (λ c. counter c who) (after_both finmap.empty before (h ∷ [])) ∙ by_case h begins
      where
        refuse : (b : Bool) → finmap.contains_key (heard_of me deadline before) who ≡ b → (IsTrue (finmap.contains_key (heard_of me deadline before) who) → ⊥) → b ≡ false
        refuse true is none = absurd (none is)
        refuse false is none = refl

        there_then : (h : Happening) → IsWatched me deadline (before ++ h ∷ []) who → finmap.contains_key (after_one me deadline (heard_of me deadline before) h) who ≡ true
        there_then h is = sym (ap (λ d. finmap.contains_key d who) (after_both finmap.empty before (h ∷ []))) ∙ is

        by_case : (h : Happening) → Begins me deadline before h who → counter (after_one me deadline (heard_of me deadline before) h) who ≡ 0
        by_case (Watches s) (inl b) = kept_counter me s deadline (heard_of me deadline before) who (there_then (Watches s) b.1) ∙ not_watched (heard_of me deadline before) (refuse _ refl b.0)
        by_case (Hears other) (inl b) = absurd (b.0 (sym (heard_watched other (heard_of me deadline before)) ∙ there_then (Hears other) b.1))
        by_case Ticks (inl b) = absurd (b.0 (sym (ticked_same deadline (heard_of me deadline before) who) ∙ there_then Ticks b.1))
        by_case h (inr b) = subst (λ x. counter (after_one me deadline (heard_of me deadline before) x) who ≡ 0) (sym b.1) heard_here
          where
            heard_here : counter (heard who (heard_of me deadline before)) who ≡ 0
            heard_here = ap (λ t. counter (if t then finmap.insert (heard_of me deadline before) who 0 else (heard_of me deadline before)) who) b.0 ∙ ap (λ o. unwrap_or o 0) (get-insert_here (heard_of me deadline before) who 0)

    pub silent_by_ticks : (before since : List Happening) (h : Happening) → IsLast me deadline before h since who → IsSilent me deadline (before ++ h ∷ since) who ↔ (deadline < ticks_in since)
    silent_by_ticks before since h last =
        let c = heard_of me deadline (before ++ h ∷ []) in
        let whole : before ++ h ∷ since ≡ (before ++ h ∷ []) ++ since = sym (append_assoc before (h ∷ []) since) in
        let split : heard_of me deadline (before ++ h ∷ since) ≡ listening me deadline c since = ap (heard_of me deadline) whole ∙ after_both finmap.empty (before ++ h ∷ []) since in
        let stays : Stays c since = λ some rest parts.
        sym (ap (λ d. finmap.contains_key d who) (sym (ap (heard_of me deadline) (append_assoc before (h ∷ []) some)) ∙ after_both finmap.empty (before ++ h ∷ []) some)) ∙ last.stays some rest parts in
        let count = since_counted since c 0 (let none = zero_at before h last.begins in omega arith) stays last.unheard in
        let there : finmap.contains_key (listening me deadline c since) who ≡ true = stays since [] (sym (append-nil since)) in
        let means : has (silent deadline (heard_of me deadline (before ++ h ∷ since))) who ≡ nat_lt deadline (counter (listening me deadline c since) who) =
        ap (λ d. has (silent deadline d) who) split ∙ silent_means (listening me deadline c since) there in
        (λ is. let lt = ltb-true deadline (counter (listening me deadline c since) who) (sym means ∙ is) in omega arith, λ lt. means ∙ lt-ltb deadline (counter (listening me deadline c since) who) (omega arith))

    -- ---- there is such a last one
    nothing_before : (some rest : List Happening) → [] ≡ some ++ rest → some ≡ []
    nothing_before [] rest parts = refl
    nothing_before (h ∷ some) rest parts = absurd cc

    -- the first part of a list with one more is a part of the list, or all of it
    part_of_more : (since : List Happening) (h : Happening) (some rest : List Happening) → since ++ h ∷ [] ≡ some ++ rest → (some ≡ since ++ h ∷ []) ⊎ ((left : List Happening) × (since ≡ some ++ left))
    part_of_more since h [] rest parts = inr (since, refl)
    part_of_more [] h (x ∷ some) rest parts = inl (ap (λ l. x ∷ l) (nothing_before some rest (tail_same parts)) ∙ ap (λ u. u ∷ []) (sym (head_same parts)))
      where
        tail_same : h ∷ [] ≡ x ∷ (some ++ rest) → [] ≡ some ++ rest
        tail_same is = cc

        head_same : h ∷ [] ≡ x ∷ (some ++ rest) → h ≡ x
        head_same is = cc
    part_of_more (y ∷ since) h (x ∷ some) rest parts = elim (part_of_more since h some rest (tail_same parts)) [
      | inl all ↦ inl (λ i. sym (head_same parts) i ∷ all i)
      | inr part ↦ inr (part.0, λ i. head_same parts i ∷ part.1 i)
    ]
      where
        tail_same : y ∷ (since ++ h ∷ []) ≡ x ∷ (some ++ rest) → since ++ h ∷ [] ≡ some ++ rest
        tail_same is = cc

        head_same : y ∷ (since ++ h ∷ []) ≡ x ∷ (some ++ rest) → y ≡ x
        head_same is = cc

    hears_who : (h : Happening) → (h ≡ Hears who) ⊎ (h ≡ Hears who → ⊥)
    hears_who (Watches s) = inr (λ is. cc)
    hears_who (Hears other) = by_key (eq_by_cmp unique_cmp other who) refl
      where
        other_is : Hears other ≡ Hears who → other ≡ who
        other_is is = cc

        by_key : (t : Bool) → eq_by_cmp unique_cmp other who ≡ t → (Hears other ≡ Hears who) ⊎ (Hears other ≡ Hears who → ⊥)
        by_key true tied = inl (ap Hears (same_key other who tied))
        by_key false apart = inr (λ is. true≢false (sym (ap (λ u. eq_by_cmp unique_cmp u who) (other_is is) ∙ key_itself who) ∙ apart))
    hears_who Ticks = inr (λ is. cc)

    abbrev Found : List Happening → Type 0
    Found xs = IsWatched me deadline xs who → HasLast me deadline xs who

    begins_now : (xs : List Happening) (h : Happening) → IsWatched me deadline (xs ++ h ∷ []) who → Begins me deadline xs h who → HasLast me deadline (xs ++ h ∷ []) who
    begins_now xs h there begins = record {
      before = xs;
      happening = h;
      since = [];
      parts = refl;
      last = record {
        begins = begins;
        stays = λ some rest parts. subst (λ l. IsWatched me deadline (xs ++ h ∷ l) who) (sym (nothing_before some rest parts)) there;
        unheard = contains_nothing (Hears who);
      };
    }

    goes_on_with : (xs : List Happening) (h : Happening) → IsWatched me deadline (xs ++ h ∷ []) who → (h ≡ Hears who → ⊥) → HasLast me deadline xs who → HasLast me deadline (xs ++ h ∷ []) who
    goes_on_with xs h there other l = record {
      before = l.before;
      happening = l.happening;
      since = l.since ++ h ∷ [];
      parts = whole;
      last = record {
        begins = l.last.begins;
        stays = λ some rest parts. elim (part_of_more l.since h some rest parts) [
          | inl all ↦ subst (λ part. IsWatched me deadline (l.before ++ l.happening ∷ part) who) (sym all) (subst (λ t. IsWatched me deadline t who) whole there)
          | inr part ↦ l.last.stays some part.0 part.1
        ];
        unheard = λ inside. elim (contains_either l.since (h ∷ []) (Hears who) inside) [
          | inl earlier ↦ l.last.unheard earlier
          | inr now ↦ elim (first_or_rest h (Hears who) [] now) [ inl same ↦ other (sym same) | inr none ↦ contains_nothing (Hears who) none ]
        ];
      };
    }
      where
        whole : xs ++ h ∷ [] ≡ l.before ++ l.happening ∷ (l.since ++ h ∷ [])
        whole = ap (λ t. t ++ h ∷ []) l.parts ∙ append_assoc l.before (l.happening ∷ l.since) (h ∷ [])

    found_more : (xs : List Happening) (h : Happening) → Found xs → Found (xs ++ h ∷ [])
    found_more xs h found there = by_watched (finmap.contains_key (heard_of me deadline xs) who) refl
      where
        by_watched : (b : Bool) → finmap.contains_key (heard_of me deadline xs) who ≡ b → HasLast me deadline (xs ++ h ∷ []) who
        by_watched false none = begins_now xs h there (inl ((λ is. true≢false (sym is ∙ none)), there))
        by_watched true was = elim (hears_who h) [
          | inl hears ↦ begins_now xs h there (inr (was, hears))
          | inr other ↦ goes_on_with xs h there other (found was)
        ]

    found_all : (xs rest : List Happening) → Found xs → Found (xs ++ rest)
    found_all xs [] found = subst Found (sym (append-nil xs)) found
    found_all xs (h ∷ rest) found = subst Found (append_assoc xs (h ∷ []) rest) (found_all (xs ++ h ∷ []) rest (found_more xs h found))

    pub has_last : (happenings : List Happening) → IsWatched me deadline happenings who → HasLast me deadline happenings who
    has_last happenings there = found_all [] happenings (λ none. absurd (true≢false (sym none ∙ ap is_some (get-empty who)))) there

-- ---- whoever is watched is on the ring, or silent and a member
pub watched_means : (me : UniqueModel) (s : Standings) (deadline : ℕ) (c : Counters) (who : UniqueModel) → IsTrue (finmap.contains_key (watching me s deadline c) who) → has (watch_ring me s) who ≡ false
    → IsTrue (has (silent deadline (watching me s deadline c)) who) × IsTrue (is_member s who)
watched_means me s deadline c who there off = (quiet, and_last _ _ (member_parts (sym (detector.is_watched me s deadline c who) ∙ there)).0)
  where
    and_first : (a b : Bool) → (a && b) ≡ true → a ≡ true
    and_first true b is = refl
    and_first false b is = absurd (true≢false (sym is))

    and_last : (a b : Bool) → (a && b) ≡ true → b ≡ true
    and_last true b is = is
    and_last false b is = absurd (true≢false (sym is))

    member_parts : (has (watch_ring me s) who || ((nat_lt deadline (counter c who) && is_member s who) && finmap.contains_key c who)) ≡ true → ((nat_lt deadline (counter c who) && is_member s who) ≡ true) × (finmap.contains_key c who ≡ true)
    member_parts is =
        let right : ((nat_lt deadline (counter c who) && is_member s who) && finmap.contains_key c who) ≡ true = sym (ap (λ b. b || ((nat_lt deadline (counter c who) && is_member s who) && finmap.contains_key c who)) off) ∙ is in (
          and_first (nat_lt deadline (counter c who) && is_member s who) (finmap.contains_key c who) right,
          and_last (nat_lt deadline (counter c who) && is_member s who) (finmap.contains_key c who) right,
        )

    quiet : has (silent deadline (watching me s deadline c)) who ≡ true
    quiet =
        silent_means me deadline who (watching me s deadline c) there
        ∙ ap (nat_lt deadline) (kept_counter me s deadline c who there)
        ∙ and_first (nat_lt deadline (counter c who)) (is_member s who) (member_parts (sym (detector.is_watched me s deadline c who) ∙ there)).0
