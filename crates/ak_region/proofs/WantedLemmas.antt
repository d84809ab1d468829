-- The shards for which messages wait: one message more.
use Rattle.std.proofs.Common.{◌≡◌, ◌≢◌, ℕ, Bool, true, false, cond, not, ◌||◌, ◌==◌, ◌+◌, ◌<◌, List, [], ◌∷◌, ◌++◌, map, length, take, drop, drop-cons, add-one, set, get_or, get_or-set_same, get_or-set_other, if◌then◌else◌, append-nil, refl, sym, ap, ◌∙◌, arith, true≢false}
use Rattle.std.specs.List.{filter}
use Rattle.std.proofs.lemmas.Bool.{eqb-true, eq-eqb}
use Rattle.std.proofs.lemmas.List.{map-append}
use Rattle.std.proofs.lemmas.List.Folds.{list_any-append}
use Rattle.ak_address.proofs.BoolLemmas.{or_false, or_true}
use Rattle.ak_shard_id.specs.Division.{DivisionModel, shard_in}
use Rattle.ak_region.specs.Shards.{ShardSlot}
use Rattle.ak_region.specs.Slot.{untold, receives}
use Rattle.ak_region.specs.RegionModel.{Message}
use Rattle.ak_region.specs.Region.{firsts}
use Rattle.ak_region.specs.Turns.{wanted_among}
use Rattle.ak_shard_id.proofs.Walks.{take_more, filter_append}
use Rattle.ak_region.proofs.EmptyLemmas.{cons_is}
use Rattle.ak_region.proofs.FirstsLemmas.{has_number, firsts_have, firsts_more}

-- a shard receives, by the slots
abbrev receives_at : List ShardSlot → ℕ → Bool
receives_at slots shard = receives (get_or slots shard untold)

-- passed over are the shards that receive and those that were found
abbrev pub IsPassed : List ShardSlot → List Bool → List ℕ → Type 0
IsPassed slots passed found = (shard : ℕ) → shard < length slots → get_or passed shard false ≡ (receives_at slots shard || has_number found shard)

-- one shard more is found, where it was not passed over
abbrev pub found_more : List Bool → List ℕ → ℕ → List ℕ
found_more passed found shard = if get_or passed shard false then found else found ++ shard ∷ []

-- has one more
has_more : (found : List ℕ) (shard n : ℕ) → has_number (found ++ shard ∷ []) n ≡ (has_number found n || (shard == n))
has_more found shard n = list_any-append (λ m. m == n) found (shard ∷ []) ∙ ap (λ b. has_number found n || b) (or_false (shard == n))

pub noted_passed : (slots : List ShardSlot) (passed : List Bool) (found : List ℕ) (shard : ℕ) → length passed ≡ length slots → shard < length slots → IsPassed slots passed found
    → IsPassed slots (set passed shard true) (found_more passed found shard)
noted_passed slots passed found shard many lt is n within = go (shard == n) refl (get_or passed shard false) refl
  where
    go : (b : Bool) → (shard == n) ≡ b → (was : Bool) → get_or passed shard false ≡ was
        → get_or (set passed shard true) n false ≡ (receives_at slots n || has_number (if was then found else found ++ shard ∷ []) n)
    go true same true there =
        let at = eqb-true shard n same in
        ap (λ k. get_or (set passed shard true) k false) (sym at) ∙ get_or-set_same passed shard true false (omega (arith, many, lt))
        ∙ sym there ∙ is shard lt ∙ ap (λ k. receives_at slots k || has_number found k) at
    go true same false there =
        let at = eqb-true shard n same in
        ap (λ k. get_or (set passed shard true) k false) (sym at) ∙ get_or-set_same passed shard true false (omega (arith, many, lt))
        ∙ sym (or_true (receives_at slots n))
        ∙ ap (λ b. receives_at slots n || b) (sym (has_more found shard n ∙ ap (λ b. has_number found n || b) same ∙ or_true (has_number found n)))
    go false other true there = get_or-set_other passed shard n true false (λ at. true≢false (sym (eq-eqb shard n (sym at)) ∙ other)) ∙ is n within
    go false other false there =
        get_or-set_other passed shard n true false (λ at. true≢false (sym (eq-eqb shard n (sym at)) ∙ other))
        ∙ is n within
        ∙ ap (λ b. receives_at slots n || b) (sym (has_more found shard n ∙ ap (λ b. has_number found n || b) other ∙ or_false (has_number found n)))

-- the shards of the messages that do not receive
abbrev unserved : DivisionModel → List ShardSlot → List Message → List ℕ
unserved division slots messages = filter (λ shard. not (receives_at slots shard)) (map (λ (message : Message). shard_in division message.entity) messages)

unserved_more : (division : DivisionModel) (slots : List ShardSlot) (messages : List Message) (i : ℕ) (d : Message) → i < length messages
    → unserved division slots (take (i + 1) messages)
    ≡ unserved division slots (take i messages) ++ cond (not (receives_at slots (shard_in division (get_or messages i d).entity))) (shard_in division (get_or messages i d).entity ∷ []) []
unserved_more division slots messages i d lt =
    ap (unserved division slots) (take_more messages i d lt)
    ∙ ap (filter (λ shard. not (receives_at slots shard))) (map-append (λ (message : Message). shard_in division message.entity) (take i messages) (get_or messages i d ∷ []))
    ∙ filter_append (λ shard. not (receives_at slots shard)) (map (λ (message : Message). shard_in division message.entity) (take i messages)) _

pub noted_found : (division : DivisionModel) (slots : List ShardSlot) (messages : List Message) (i : ℕ) (d : Message) (passed : List Bool) (found : List ℕ) (shard : ℕ) → i < length messages
    → shard ≡ shard_in division (get_or messages i d).entity → shard < length slots → IsPassed slots passed found → found ≡ wanted_among division slots (take i messages)
    → found_more passed found shard ≡ wanted_among division slots (take (i + 1) messages)
noted_found division slots messages i d passed found shard lt at within is so_far =
    go (receives_at slots shard) refl (has_number found shard) refl
    ∙ ap firsts (
    ap (λ s. unserved division slots (take i messages) ++ cond (not (receives_at slots s)) (s ∷ []) []) at
    ∙ sym (unserved_more division slots messages i d lt)
    )
  where
    there : has_number found shard ≡ has_number (unserved division slots (take i messages)) shard
    there = ap (λ xs. has_number xs shard) so_far ∙ firsts_have (unserved division slots (take i messages)) shard

    go : (r : Bool) → receives_at slots shard ≡ r → (h : Bool) → has_number found shard ≡ h
        → found_more passed found shard ≡ firsts (unserved division slots (take i messages) ++ cond (not (receives_at slots shard)) (shard ∷ []) [])
    go true served h has =
        ap (λ b. if b then found else found ++ shard ∷ []) (is shard within ∙ ap (λ b. b || has_number found shard) served)
        ∙ so_far
        ∙ ap firsts (sym (append-nil (unserved division slots (take i messages))) ∙ ap (λ b. unserved division slots (take i messages) ++ cond (not b) (shard ∷ []) []) (sym served))
    go false unserved_here h has =
        ap (λ b. if b then found else found ++ shard ∷ []) (is shard within ∙ ap (λ b. b || has_number found shard) unserved_here ∙ there)
        ∙ ap (λ xs. cond (has_number (unserved division slots (take i messages)) shard) xs (xs ++ shard ∷ [])) so_far
        ∙ sym (firsts_more (unserved division slots (take i messages)) shard)
        ∙ ap (λ b. firsts (unserved division slots (take i messages) ++ cond (not b) (shard ∷ []) [])) (sym unserved_here)

-- ---- a walk that looks for the first message that wants its shard
-- a message for a shard that receives wants nothing
pub served_wants_nothing : (division : DivisionModel) (slots : List ShardSlot) (messages : List Message) (i : ℕ) (d : Message) → i < length messages → receives_at slots (shard_in division (get_or messages i d).entity) ≡ true
    → wanted_among division slots (drop (i + 1) messages) ≡ wanted_among division slots (drop i messages)
served_wants_nothing division slots messages i d lt is =
    let rest = unserved division slots (drop (i + 1) messages) in
    let shard = shard_in division (get_or messages i d).entity in
    ap (λ b. firsts (cond (not b) (shard ∷ rest) rest)) (sym is)
    ∙ ap (λ l. wanted_among division slots (get_or messages i d ∷ l)) (ap (λ n. drop n messages) (add-one i))
    ∙ ap (wanted_among division slots) (sym (drop-cons messages i d lt))

-- any other wants its shard
pub unserved_wants : (division : DivisionModel) (slots : List ShardSlot) (messages : List Message) (i : ℕ) (d : Message) → i < length messages → receives_at slots (shard_in division (get_or messages i d).entity) ≡ false
    → wanted_among division slots (drop i messages) ≢ []
unserved_wants division slots messages i d lt is none =
    let rest = unserved division slots (drop (i + 1) messages) in
    let shard = shard_in division (get_or messages i d).entity in
    cons_is shard (filter (λ m. not (m == shard)) (firsts rest)) (
    ap (λ b. firsts (cond (not b) (shard ∷ rest) rest)) (sym is)
    ∙ ap (λ l. wanted_among division slots (get_or messages i d ∷ l)) (ap (λ n. drop n messages) (add-one i))
    ∙ ap (wanted_among division slots) (sym (drop-cons messages i d lt))
    ∙ none
    )
