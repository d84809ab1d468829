-- Packets of which each different one is stored once: one more is sent, what stands at a number, and how many are different.
use Rattle.std.proofs.Common.{◌≡◌, ℕ, zero, suc, ◌-◌, ◌<◌, ◌==◌, Bool, true, false, cond, ◌||◌, List, [], ◌∷◌, ◌++◌, map, length, slice_get, Option, None, Some, Result, Ok, Err, IfOk, if◌then◌else◌, nat_eq, inl, inr, refl, sym, ap, subst, ◌∙◌, arith, true≢false, length-append}
use Rattle.std.proofs.lemmas.List.Folds.{list_any-append}
use Rattle.std.proofs.lemmas.Map.Made.{length-from_keys}
use Rattle.std.specs.List.{AllByRecursion, Contains, IsDistinct}
use Rattle.std.specs.Set.{is_member, unique_keys, distinct_count}
use Rattle.std.specs.Cmp.{IsEquivalence, on_equiv}
use Rattle.std.specs.Cmp.Lexicographic.{pointwise, bytes_decides, nat_list_eq_equiv}
use Rattle.indexmap.specs.IndexSet.{insert_key}
use Rattle.ak_address.specs.Unique.{UniqueModel}
use Rattle.ak_address.proofs.Elements.{contains_first, contains_left, contains_right, contains_either, contains_nothing, contains_at, first_or_rest, index_of, any_there, any_found}
use Rattle.ak_address.proofs.Pairs.{not_None, same_Some}
use Rattle.ak_wire.specs.declared.envelope.Envelope.{Envelope}
use Rattle.ak_wire.specs.Datagram.{datagram, IsValid}
use Rattle.ak_wire.specs.declared.action.Action.{Action}
use Rattle.ak_wire.specs.Wire.{put, sent}
use Rattle.ak_packet.proofs.PacketLemmas.{of_same_bytes}
use Rattle.ak_packet.specs.Alike.{is_alike}
use Rattle.ak_packet.specs.AlikeLaws.{alike_equiv}
use Rattle.ak_world.specs.declared.world.Refused.{Refused}
use Rattle.ak_world.specs.declared.world.Step.{Step}
use Rattle.ak_world.specs.World.{WorldState, numbered}
use Rattle.ak_world.specs.WorldContracts.{Keeps}
use Rattle.ak_world.specs.Stored.{is_same, different, at_places, place_at, AreStored, AreToldApart, StandsAt}

-- ---- packets with the same bytes
laws : IsEquivalence is_same
laws = on_equiv datagram nat_list_eq_equiv

same_packet : (d e : Envelope) → IsValid d → IsValid e → is_same d e ≡ true → d ≡ e
same_packet d e valid too same = of_same_bytes d e valid too ((bytes_decides (datagram d) (datagram e)).0 same)

-- whatever has the same bytes is alike
same_is_alike : (d e : Envelope) → IsValid d → IsValid e → is_same d e ≡ true → is_alike d e ≡ true
same_is_alike d e valid too same = ap (is_alike d) (sym (same_packet d e valid too same)) ∙ alike_equiv.refl d

-- ---- lists
module _ {X : Type 0} (P : X → Type 0) where
  holds_at : (xs : List X) (i : ℕ) (x : X) → AllByRecursion P xs → slice_get xs i ≡ Some x → P x
  holds_at [] i x all there = absurd (not_None x (sym there))
  holds_at (y ∷ ys) zero x all there = subst P (same_Some y x there) all.0
  holds_at (y ∷ ys) (suc i) x all there = holds_at ys i x all.1 there

  pub holds_more : (xs : List X) (x : X) → AllByRecursion P xs → P x → AllByRecursion P (xs ++ x ∷ [])
  holds_more [] x all one = (one, tt)
  holds_more (y ∷ ys) x all one = (all.0, holds_more ys x all.1 one)

  holds_of : (Q : X → Type 0) → ((x : X) → P x → Q x) → (xs : List X) → AllByRecursion P xs → AllByRecursion Q xs
  holds_of Q so [] all = tt
  holds_of Q so (y ∷ ys) all = (so y all.0, holds_of Q so ys all.1)

within_more : {X : Type 0} (xs : List X) (x : X) (i : ℕ) → i < length xs → slice_get (xs ++ x ∷ []) i ≡ slice_get xs i
within_more [] x i lt = absurd (omega (arith, lt))
within_more (y ∷ ys) x zero lt = refl
within_more (y ∷ ys) x (suc i) lt = within_more ys x i (omega (arith, lt))

there : {X : Type 0} (xs : List X) (i : ℕ) → i < length xs → (x : X) × (slice_get xs i ≡ Some x)
there [] i lt = absurd (omega (arith, lt))
there (y ∷ ys) zero lt = (y, refl)
there (y ∷ ys) (suc i) lt = there ys i (omega (arith, lt))

pub below : {X : Type 0} (xs : List X) (i : ℕ) (x : X) → slice_get xs i ≡ Some x → i < length xs
below [] i x at = absurd (not_None x (sym at))
below (y ∷ ys) zero x at = omega arith
below (y ∷ ys) (suc i) x at = let rest = below ys i x at in omega (arith, rest)

pub put-append : {X : Type 0} (o : Option X) (xs ys : List X) → put o (xs ++ ys) ≡ put o xs ++ ys
put-append None xs ys = refl
put-append (Some x) xs ys = refl

valid_in : (stored : List Envelope) (e : Envelope) → AllByRecursion IsValid stored → Contains stored e → IsValid e
valid_in stored e all is_in = let at = index_of stored e is_in in holds_at IsValid stored at.0 e all at.1

-- ---- what stands at places
-- whatever stands there is stored
from_places : (stored : List Envelope) (places : List ℕ) (e : Envelope) → AllByRecursion (λ place. place < length stored) places → Contains (at_places stored places) e → Contains stored e
from_places stored [] e placed is_in = absurd (contains_nothing e is_in)
from_places stored (p ∷ ps) e placed is_in =
    let here = there stored p placed.0 in
    elim (first_or_rest here.0 e (at_places stored ps) (subst (λ o. Contains (put o (at_places stored ps)) e) here.1 is_in)) [
      | inl same ↦ subst (Contains stored) (sym same) (contains_at stored p here.0 here.1)
      | inr later ↦ from_places stored ps e placed.1 later
    ]

at_places-append : (stored : List Envelope) (places : List ℕ) (place : ℕ) → at_places stored (places ++ place ∷ []) ≡ at_places stored places ++ put (slice_get stored place) []
at_places-append stored [] place = refl
at_places-append stored (p ∷ ps) place = ap (put (slice_get stored p)) (at_places-append stored ps place) ∙ put-append (slice_get stored p) (at_places stored ps) (put (slice_get stored place) [])

at_places-more : (stored : List Envelope) (e : Envelope) (places : List ℕ) → AllByRecursion (λ place. place < length stored) places → at_places (stored ++ e ∷ []) places ≡ at_places stored places
at_places-more stored e [] placed = refl
at_places-more stored e (p ∷ ps) placed = λ i. put (within_more stored e p placed.0 i) (at_places-more stored e ps placed.1 i)

pub length-at_places : (stored : List Envelope) (places : List ℕ) → AllByRecursion (λ place. place < length stored) places → length (at_places stored places) ≡ length places
length-at_places stored [] placed = refl
length-at_places stored (p ∷ ps) placed =
    let here = there stored p placed.0 in
    ap (λ o. length (put o (at_places stored ps))) here.1 ∙ ap suc (length-at_places stored ps placed.1)

at_some : (o : Option Envelope) (e : Envelope) (es : List Envelope) (i : ℕ) → o ≡ Some e → slice_get (put o es) (suc i) ≡ slice_get es i
at_some o e es i is = ap (λ p. slice_get (put p es) (suc i)) is

at_first : (o : Option Envelope) (e : Envelope) (es : List Envelope) → o ≡ Some e → slice_get (put o es) 0 ≡ o
at_first o e es is = ap (λ p. slice_get (put p es) 0) is ∙ sym is

-- the packet at a place
pub at_place : (stored : List Envelope) (places : List ℕ) (i place : ℕ) → AllByRecursion (λ place. place < length stored) places → slice_get places i ≡ Some place → slice_get (at_places stored places) i ≡ slice_get stored place
at_place stored [] i place placed is = absurd (not_None place (sym is))
at_place stored (p ∷ ps) zero place placed is =
    let here = there stored p placed.0 in at_first (slice_get stored p) here.0 (at_places stored ps) here.1 ∙ ap (slice_get stored) (same_Some p place is)
at_place stored (p ∷ ps) (suc i) place placed is =
    let here = there stored p placed.0 in at_some (slice_get stored p) here.0 (at_places stored ps) i here.1 ∙ at_place stored ps i place placed.1 is

-- none past the last
pub at_no_place : (stored : List Envelope) (places : List ℕ) (i : ℕ) → AllByRecursion (λ place. place < length stored) places → slice_get places i ≡ None → slice_get (at_places stored places) i ≡ None
at_no_place stored [] i placed is = refl
at_no_place stored (p ∷ ps) zero placed is = absurd (not_None p is)
at_no_place stored (p ∷ ps) (suc i) placed is =
    let here = there stored p placed.0 in at_some (slice_get stored p) here.0 (at_places stored ps) i here.1 ∙ at_no_place stored ps i placed.1 is

-- the packet of a number
module _ (stored : List Envelope) (places : List ℕ) (number : ℕ) (placed : AllByRecursion (λ place. place < length stored) places) where
  pub numbered_there : (place : ℕ) → place_at places number ≡ Some place → slice_get stored place ≡ numbered (at_places stored places) number
  numbered_there place is = by (number == 0) is
    where
      by : (none : Bool) → (if none then None else slice_get places (number - 1)) ≡ Some place → slice_get stored place ≡ (if none then None else slice_get (at_places stored places) (number - 1))
      by true is = absurd (not_None place (sym is))
      by false is = sym (at_place stored places (number - 1) place placed is)

  pub numbered_none : place_at places number ≡ None → None ≡ numbered (at_places stored places) number
  numbered_none is = by (number == 0) is
    where
      by : (none : Bool) → (if none then None else slice_get places (number - 1)) ≡ None → None ≡ (if none then None else slice_get (at_places stored places) (number - 1))
      by true is = refl
      by false is = sym (at_no_place stored places (number - 1) placed is)

-- a packet keeps its number
module _ (packets more : List Envelope) (e : Envelope) where
  sent_still : (xs : List Envelope) (i : ℕ) → slice_get xs i ≡ Some e → slice_get (xs ++ more) i ≡ Some e
  sent_still [] i is = absurd (not_None e (sym is))
  sent_still (x ∷ xs) zero is = is
  sent_still (x ∷ xs) (suc i) is = sent_still xs i is

  pub numbered_still : (number : ℕ) → numbered packets number ≡ Some e → numbered (packets ++ more) number ≡ Some e
  numbered_still number is = by (number == 0) is
    where
      by : (none : Bool) → (if none then None else slice_get packets (number - 1)) ≡ Some e → (if none then None else slice_get (packets ++ more) (number - 1)) ≡ Some e
      by true is = absurd (not_None e (sym is))
      by false is = sent_still packets (number - 1) is

-- a node was given it: the step shows it
pub kept_arrived : (w v : WorldState) (index : ℕ) (me : UniqueModel) (actions : List Action) (r : Result Step Refused) (number : ℕ) (e p : Envelope) → numbered w.packets number ≡ Some e → p ≡ e
    → IfOk r (λ (step : Step). Keeps index me actions w step v) → IfOk r (λ (step : Step). step.arrived ≡ Some p) → IfOk r (λ (step : Step). step.arrived ≡ numbered v.packets number)
kept_arrived w v index me actions (Ok step) number e p there same keeps arrived =
    arrived ∙ ap Some same ∙ sym (ap (λ ps. numbered ps number) keeps.packets ∙ numbered_still w.packets (sent actions) e number there)
kept_arrived w v index me actions (Err why) number e p there same keeps arrived = tt

-- ---- how many are different
module _ {X Y : Type 0} (E : Y → Y → Bool) (f : X → Y) where
  is_member-map : (xs : List X) (q : X) → is_member (λ x y. E (f x) (f y)) xs q ≡ is_member E (map f xs) (f q)
  is_member-map [] q = refl
  is_member-map (x ∷ xs) q = ap (λ b. E (f q) (f x) || b) (is_member-map xs q)

  one_more : (b : Bool) (x : X) (y : Y) (xs : List X) (ys : List Y) → length xs ≡ length ys → length (cond b xs (x ∷ xs)) ≡ length (cond b ys (y ∷ ys))
  one_more true x y xs ys long = long
  one_more false x y xs ys long = ap suc long

  distinct_count-map : (xs : List X) → distinct_count (λ x y. E (f x) (f y)) xs ≡ distinct_count E (map f xs)
  distinct_count-map [] = refl
  distinct_count-map (x ∷ xs) =
      one_more (is_member (λ x y. E (f x) (f y)) xs x) x (f x) (unique_keys (λ x y. E (f x) (f y)) xs) (unique_keys E (map f xs)) (distinct_count-map xs)
      ∙ ap (λ b. length (cond b (unique_keys E (map f xs)) (f x ∷ unique_keys E (map f xs)))) (is_member-map xs x)

-- those of which no two are alike have no bytes twice
other_bytes : (d e : Envelope) → IsValid d → IsValid e → is_alike d e ≡ false → is_same d e ≡ false
other_bytes d e valid too other = by (is_same d e) refl
  where
    by : (b : Bool) → is_same d e ≡ b → is_same d e ≡ false
    by false is = is
    by true is = absurd (true≢false (sym (same_is_alike d e valid too is) ∙ other))

all_other : (e : Envelope) (es : List Envelope) → IsValid e → AllByRecursion IsValid es → AllByRecursion (λ d. is_alike e d ≡ false) es → AllByRecursion (λ d. is_same e d ≡ false) es
all_other e [] valid all other = tt
all_other e (d ∷ es) valid all other = (other_bytes e d valid all.0 other.0, all_other e es valid all.1 other.1)

distinct_bytes : (stored : List Envelope) → AllByRecursion IsValid stored → IsDistinct is_alike stored → IsDistinct is_same stored
unfolding IsDistinct
distinct_bytes [] all distinct = tt
distinct_bytes (e ∷ stored) all distinct = (all_other e stored all.0 all.1 distinct.0, distinct_bytes stored all.1 distinct.1)

-- as many are different as are stored
pub stored_different : (stored : List Envelope) (places : List ℕ) → IsDistinct is_alike stored → AreStored stored places → length stored ≡ different (at_places stored places)
stored_different stored places distinct are =
    length-from_keys laws stored (at_places stored places) (distinct_bytes stored are.valid distinct) are.sent ∙ distinct_count-map (pointwise nat_eq) datagram (at_places stored places)

-- ---- one more packet
-- the packets before it, and it, are what stands at the places
pub record Pushed (stored : List Envelope) (places : List ℕ) (e : Envelope) (new : List Envelope) (place : ℕ) : Type 0 where
  pub are : AreStored new (places ++ place ∷ [])
  pub packets : at_places new (places ++ place ∷ []) ≡ at_places stored places ++ e ∷ []

is_member-push : (es : List Envelope) (e q : Envelope) → is_member is_same (es ++ e ∷ []) q ≡ (is_member is_same es q || is_same q e)
is_member-push es e q = list_any-append (is_same q) es (e ∷ []) ∙ ap (λ b. is_member is_same es q || b) (or_false (is_same q e))
  where
    or_false : (b : Bool) → (b || false) ≡ b
    or_false true = refl
    or_false false = refl

known_too : (stored : List Envelope) (e q : Envelope) → is_member is_same stored e ≡ true → is_member is_same stored q ≡ (is_member is_same stored q || is_same q e)
known_too stored e q known = by (is_same q e) refl
  where
    or_false : (b : Bool) → b ≡ (b || false)
    or_false true = refl
    or_false false = refl

    any : (xs : List Envelope) → is_same q e ≡ true → is_member is_same xs q ≡ is_member is_same xs e
    any [] same = refl
    any (x ∷ xs) same = λ i. laws.congr q e x same i || any xs same i

    or_true : (b : Bool) → b ≡ true → b ≡ (b || true)
    or_true true is = refl
    or_true false is = absurd (true≢false (sym is))

    by : (b : Bool) → is_same q e ≡ b → is_member is_same stored q ≡ (is_member is_same stored q || is_same q e)
    by true same = or_true (is_member is_same stored q) (any stored same ∙ known) ∙ ap (λ c. is_member is_same stored q || c) (sym same)
    by false other = or_false (is_member is_same stored q) ∙ ap (λ c. is_member is_same stored q || c) (sym other)

module _ (stored : List Envelope) (places : List ℕ) (e : Envelope) (are : AreStored stored places) (valid : IsValid e) where
  -- it is stored already, and has one more place
  again : (place : ℕ) (k : Envelope) → place < length stored → slice_get stored place ≡ Some k → e ≡ k → Pushed stored places e stored place
  again place k lt at it =
      let known : is_member is_same stored e ≡ true = any_there (is_same e) stored k (contains_at stored place k at) (ap (is_same e) (sym it) ∙ laws.refl e) in
      let packets : at_places stored (places ++ place ∷ []) ≡ at_places stored places ++ e ∷ [] =
      at_places-append stored places place ∙ ap (λ o. at_places stored places ++ put o []) (at ∙ ap Some (sym it)) in
      record {
        are = record {
          placed = holds_more (λ p. p < length stored) places place are.placed lt;
          sent = λ q.
              known_too stored e q known ∙ ap (λ b. b || is_same q e) (are.sent q) ∙ sym (is_member-push (at_places stored places) e q) ∙ ap (λ es. is_member is_same es q) (sym packets);
          valid = are.valid;
        };
        packets = packets;
      }

  -- it is stored for the first time
  anew : (place : ℕ) (k : Envelope) → place < length (stored ++ e ∷ []) → slice_get (stored ++ e ∷ []) place ≡ Some k → e ≡ k → Pushed stored places e (stored ++ e ∷ []) place
  anew place k lt at it =
      let new = stored ++ e ∷ [] in
      let all : AllByRecursion IsValid new = holds_more IsValid stored e are.valid valid in
      let long = length-append stored (e ∷ []) in
      let packets : at_places new (places ++ place ∷ []) ≡ at_places stored places ++ e ∷ [] =
      at_places-append new places place ∙ (λ i. at_places-more stored e places are.placed i ++ put ((at ∙ ap Some (sym it)) i) []) in
      record {
        are = record {
          placed = holds_more (λ p. p < length new) places place (holds_of (λ p. p < length stored) (λ p. p < length new) (λ p below. omega (arith, below, long)) places are.placed) lt;
          sent = λ q.
              is_member-push stored e q ∙ ap (λ b. b || is_same q e) (are.sent q) ∙ sym (is_member-push (at_places stored places) e q) ∙ ap (λ es. is_member is_same es q) (sym packets);
          valid = all;
        };
        packets = packets;
      }

  -- whatever is stored was sent
  was_sent : (k : Envelope) → Contains stored k → Contains (at_places stored places) k
  was_sent k is_in =
      let found = any_found (is_same k) (at_places stored places) (sym (are.sent k) ∙ any_there (is_same k) stored k is_in (laws.refl k)) in
      let it = same_packet k found.0 (valid_in stored k are.valid is_in) (valid_in stored found.0 are.valid (from_places stored places found.0 are.placed found.1)) found.2 in
      subst (Contains (at_places stored places)) (sym it) found.1

  module _ (told : AreToldApart (at_places stored places ++ e ∷ [])) where
    it_is : (k : Envelope) → Contains stored k → is_alike e k ≡ true → e ≡ k
    it_is k is_in alike =
        let sent = at_places stored places in
        told e k (contains_right sent (e ∷ []) e (contains_first e [])) (contains_left sent (e ∷ []) k (was_sent k is_in)) alike

    it_is_new : (k : Envelope) → Contains (stored ++ e ∷ []) k → is_alike e k ≡ true → e ≡ k
    it_is_new k is_in alike = elim (contains_either stored (e ∷ []) k is_in) [
      | inl before ↦ it_is k before alike
      | inr last ↦ elim (first_or_rest e k [] last) [ inl same ↦ sym same | inr none ↦ absurd (contains_nothing k none) ]
    ]

    either : (known : Bool) → (new : List Envelope) (place : ℕ) (k : Envelope) → new ≡ (if known then stored else stored ++ e ∷ []) → place < length new → slice_get new place ≡ Some k → is_alike e k ≡ true
        → Pushed stored places e new place
    either true new place k is lt at alike =
        let there = ap (λ l. slice_get l place) (sym is) ∙ at in
        subst (λ l. Pushed stored places e l place) (sym is) (again place k (subst (λ l. place < length l) is lt) there (it_is k (contains_at stored place k there) alike))
    either false new place k is lt at alike =
        let there = ap (λ l. slice_get l place) (sym is) ∙ at in
        subst (λ l. Pushed stored places e l place) (sym is) (anew place k (subst (λ l. place < length l) is lt) there (it_is_new k (contains_at (stored ++ e ∷ []) place k there) alike))

    pub pushed : (new : List Envelope) (place : ℕ) (k : Envelope) → new ≡ insert_key is_alike stored e → place < length new → slice_get new place ≡ Some k → is_alike e k ≡ true → Pushed stored places e new place
    pushed new place k is lt at alike = either (is_member is_alike stored e) new place k is lt at alike

    -- it stands at a place already
    pub pushed_again : (place : ℕ) → StandsAt stored e place → Pushed stored places e stored place
    pushed_again place at = again place at.0 (below stored place at.0 at.1) at.1 (it_is at.0 (contains_at stored place at.0 at.1) at.2)
