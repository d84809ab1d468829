-- Of what two lists come to together, and of what a walk finds: where it is not empty.
use Rattle.std.proofs.Common.{◌≡◌, ◌≢◌, ℕ, Bool, true, false, not, ◌&&◌, ◌+◌, ◌<◌, List, [], ◌∷◌, ◌++◌, length, take, drop, drop-cons, add-one, get_or, set, Option, None, Some, refl, sym, ap, ◌∙◌, true≢false}
use Rattle.std.proofs.lemmas.List.{take-append-drop, set-get_or}
use Rattle.ak_address.specs.Unique.{UniqueModel}
use Rattle.ak_address.proofs.TableLaws.{same_key}
use Rattle.ak_shard_id.specs.declared.report.Report.{Report}
use Rattle.ak_shard_id.proofs.Walks.{filter_append}
use Rattle.ak_region.specs.Shards.{ShardSlot}
use Rattle.ak_region.specs.Slot.{untold, is_some_unique, is_known_at, at_home}
use Rattle.ak_shard_id.specs.Division.{DivisionModel}
use Rattle.ak_region.specs.RegionModel.{RegionModel, Message}
use Rattle.ak_region.specs.Region.{slot_of, with_slot, is_for, those_for, others_than_for, report_of, reports_from}
use Rattle.ak_region.specs.Turns.{turn_gone}
use Rattle.ak_region.proofs.WalkLemmas.{next_gone}

abbrev filled : {X : Type 0} → List X → Bool
filled [] = false
filled (x ∷ xs) = true

pub cons_is : {X : Type 0} (x : X) (xs : List X) → x ∷ xs ≢ []
cons_is x xs e = true≢false (ap filled e)

pub empty_front : {X : Type 0} (xs ys : List X) → xs ++ ys ≡ [] → xs ≡ []
empty_front [] ys none = refl
empty_front (x ∷ xs) ys none = absurd (cons_is x (xs ++ ys) none)

pub empty_end : {X : Type 0} (xs ys : List X) → xs ++ ys ≡ [] → ys ≡ []
empty_end [] ys none = none
empty_end (x ∷ xs) ys none = absurd (cons_is x (xs ++ ys) none)

-- a message that goes is one of those that are for the shard
pub those_gone : (division : DivisionModel) (shard i : ℕ) (xs now : List Message) (d : Message) → i < length xs → now ≡ drop i xs ++ others_than_for division shard (take i xs)
    → turn_gone division shard now ≢ [] → those_for division shard xs ≢ []
those_gone division shard i xs now d lt is goes none =
    goes (empty_end (those_for division shard (take i xs)) (turn_gone division shard now) (
    next_gone division shard i xs now d lt is
    ∙ empty_front (those_for division shard (take (i + 1) xs)) (those_for division shard (drop (i + 1) xs)) (
    sym (filter_append (is_for division shard) (take (i + 1) xs) (drop (i + 1) xs))
    ∙ ap (those_for division shard) (take-append-drop (i + 1) xs)
    ∙ none
    )
    ))

-- a shard that is reported is among those of a walk
pub reports_stand : (found all : List Report) (slots : List ShardSlot) (i : ℕ) (d : ShardSlot) → i < length slots → found ++ reports_from i (drop i slots) ≡ all
    → report_of i (get_or slots i d) ≢ [] → all ≢ []
reports_stand found all slots i d lt is there none =
    there (empty_front (report_of i (get_or slots i d)) (reports_from (i + 1) (drop (i + 1) slots)) (
    ap (λ l. report_of i (get_or slots i d) ++ reports_from (i + 1) l) (ap (λ n. drop n slots) (add-one i))
    ∙ ap (reports_from i) (sym (drop-cons slots i d lt))
    ∙ empty_end found (reports_from i (drop i slots)) (is ∙ none)
    ))

-- a home that is known there already changes nothing
known_stays : (home : UniqueModel) (slot : ShardSlot) → is_known_at home slot ≡ true → slot ≡ at_home home slot
known_stays home slot is = go slot.held slot.home is
  where
    go : (held : Bool) (known : Option UniqueModel) → (not held && is_some_unique known home) ≡ true → record slot { held = held; home = known } ≡ record slot { held = false; home = Some home }
    go true known is = absurd (true≢false (sym is))
    go false None is = absurd (true≢false (sym is))
    go false (Some who) is = ap (λ u. record slot { held = false; home = Some u }) (same_key who home is)

pub known_home_stays : (region : RegionModel) (shard : ℕ) (home : UniqueModel) → is_known_at home (slot_of region shard) ≡ true → region ≡ with_slot region shard (at_home home (slot_of region shard))
known_home_stays region shard home is =
    ap (λ l. record region { slots = l }) (sym (set-get_or region.slots shard untold) ∙ ap (set region.slots shard) (known_stays home (slot_of region shard) is))
