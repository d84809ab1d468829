-- Slots of shards of which nothing was told change nothing of what is known.
use Rattle.std.proofs.Common.{◌≡◌, ℕ, zero, suc, ◌+◌, ◌-◌, ◌<◌, ◌≤◌, ◌||◌, Bool, false, List, [], ◌∷◌, ◌++◌, length, map, replicate, take, drop, get_or, set, is_some, refl, sym, ap, ◌∙◌, subst, arith, append_assoc, append-nil, length-append}
use Rattle.std.proofs.lemmas.List.{length-replicate, take_all, drop_all}
use Rattle.std.specs.List.{list_any}
use Rattle.ak_member.specs.Standing.{Standings}
use Rattle.ak_shard_id.specs.Division.{DivisionModel}
use Rattle.ak_region.specs.Shards.{ShardSlot}
use Rattle.ak_region.specs.Slot.{untold, receives, without_stranger}
use Rattle.ak_region.specs.RegionModel.{RegionModel, Message}
use Rattle.ak_region.specs.Region.{slot_of, with_slot, after_forget, reports_from}
use Rattle.ak_region.specs.Stored.{all_slots}

-- ---- of lists that end with such slots
pub at_untold : (n i : ℕ) → get_or (replicate n untold) i untold ≡ untold
at_untold zero i = refl
at_untold (suc n) zero = refl
at_untold (suc n) (suc i) = at_untold n i

at_padded : (told : List ShardSlot) (n i : ℕ) → get_or (told ++ replicate n untold) i untold ≡ get_or told i untold
at_padded [] n i = at_untold n i
at_padded (slot ∷ told) n zero = refl
at_padded (slot ∷ told) n (suc i) = at_padded told n i

set_padded : (told rest : List ShardSlot) (i : ℕ) (s : ShardSlot) → i < length told → set (told ++ rest) i s ≡ set told i s ++ rest
set_padded [] rest i s less = absurd (omega (arith, less))
set_padded (slot ∷ told) rest zero s less = refl
set_padded (slot ∷ told) rest (suc i) s less = ap (λ l. slot ∷ l) (set_padded told rest i s (omega (arith, less)))

set_length : (told : List ShardSlot) (i : ℕ) (s : ShardSlot) → length (set told i s) ≡ length told
set_length [] i s = refl
set_length (slot ∷ told) zero s = refl
set_length (slot ∷ told) (suc i) s = ap suc (set_length told i s)

more : (m n : ℕ) → replicate m untold ++ replicate n untold ≡ replicate (m + n) untold
more zero n = ap (λ k. replicate k untold) (let e : n ≡ 0 + n = omega arith in e)
more (suc m) n = ap (λ l. untold ∷ l) (more m n) ∙ ap (λ k. replicate k untold) (let e : suc (m + n) ≡ suc m + n = omega arith in e)

one_more : (n : ℕ) → replicate n false ++ false ∷ [] ≡ replicate (n + 1) false
one_more zero = refl
one_more (suc n) = ap (λ l. false ∷ l) (one_more n) ∙ ap (λ k. replicate k false) (let e : suc (n + 1) ≡ suc n + 1 = omega arith in e)

none_hosted : (n : ℕ) → list_any (λ (slot : ShardSlot). is_some slot.hosted) (replicate n untold) ≡ false
none_hosted zero = refl
none_hosted (suc n) = none_hosted n

hosted_padded : (told : List ShardSlot) (n : ℕ) → list_any (λ (slot : ShardSlot). is_some slot.hosted) (told ++ replicate n untold) ≡ list_any (λ (slot : ShardSlot). is_some slot.hosted) told
hosted_padded [] n = none_hosted n
hosted_padded (slot ∷ told) n = ap (λ b. is_some slot.hosted || b) (hosted_padded told n)

none_reported : (shard n : ℕ) → reports_from shard (replicate n untold) ≡ []
none_reported shard zero = refl
none_reported shard (suc n) = none_reported (shard + 1) n

reported_padded : (shard : ℕ) (told : List ShardSlot) (n : ℕ) → reports_from shard (told ++ replicate n untold) ≡ reports_from shard told
reported_padded shard [] n = none_reported shard n
reported_padded shard (slot ∷ told) n = ap (λ l. Rattle.ak_region.specs.Region.report_of shard slot ++ l) (reported_padded (shard + 1) told n)

pub none_strange : (s : Standings) (n : ℕ) → map (without_stranger s) (replicate n untold) ≡ replicate n untold
none_strange s zero = refl
none_strange s (suc n) = ap (λ l. untold ∷ l) (none_strange s n)

strange_padded : (s : Standings) (told : List ShardSlot) (n : ℕ) → map (without_stranger s) (told ++ replicate n untold) ≡ map (without_stranger s) told ++ replicate n untold
strange_padded s [] n = none_strange s n
strange_padded s (slot ∷ told) n = ap (λ l. without_stranger s slot ∷ l) (strange_padded s told n)

pub map_length : (s : Standings) (told : List ShardSlot) → length (map (without_stranger s) told) ≡ length told
map_length s [] = refl
map_length s (slot ∷ told) = ap suc (map_length s told)

-- ---- of the slots of all shards
pub at_all : (shards : ℕ) (told : List ShardSlot) (i : ℕ) → get_or (all_slots shards told) i untold ≡ get_or told i untold
at_all shards told i = at_padded told (shards - length told) i

pub all_length : (shards : ℕ) (told : List ShardSlot) → length told ≤ shards → length (all_slots shards told) ≡ shards
all_length shards told less =
    length-append told (replicate (shards - length told) untold) ∙ ap (λ n. length told + n) (length-replicate (shards - length told) untold) ∙ (let e : length told + (shards - length told) ≡ shards = omega (arith, less) in e)

pub all_hosted : (shards : ℕ) (told : List ShardSlot) → list_any (λ (slot : ShardSlot). is_some slot.hosted) (all_slots shards told) ≡ list_any (λ (slot : ShardSlot). is_some slot.hosted) told
all_hosted shards told = hosted_padded told (shards - length told)

pub all_reported : (shards : ℕ) (told : List ShardSlot) → reports_from 0 (all_slots shards told) ≡ reports_from 0 told
all_reported shards told = reported_padded 0 told (shards - length told)

pub all_forgotten : (s : Standings) (shards : ℕ) (told : List ShardSlot) → all_slots shards (map (without_stranger s) told) ≡ map (without_stranger s) (all_slots shards told)
all_forgotten s shards told = ap (λ n. map (without_stranger s) told ++ replicate (shards - n) untold) (map_length s told) ∙ sym (strange_padded s told (shards - length told))

-- the slots reach to a shard, and its slot is another then
reached : (shards : ℕ) (told : List ShardSlot) (n : ℕ) → length told + n ≤ shards → all_slots shards (told ++ replicate n untold) ≡ all_slots shards told
reached shards told n less =
    append_assoc told (replicate n untold) _
    ∙ ap (λ l. told ++ l) (more n (shards - length (told ++ replicate n untold)) ∙ ap (λ k. replicate k untold) (ap (λ k. n + (shards - k)) (length-append told (replicate n untold) ∙ ap (λ k. length told + k) (length-replicate n untold)) ∙ (let e : n + (shards - (length told + n)) ≡ shards - length told = omega (arith, less) in e)))

pub reached_set : (shards : ℕ) (told now : List ShardSlot) (i n : ℕ) (s : ShardSlot) → now ≡ told ++ replicate n untold → i < length now → length now ≤ shards → all_slots shards (set now i s) ≡ set (all_slots shards told) i s
reached_set shards told now i n s is less fits =
    let many : length now ≡ length told + n = ap length is ∙ length-append told (replicate n untold) ∙ ap (λ k. length told + k) (length-replicate n untold) in
    ap (λ k. set now i s ++ replicate (shards - k) untold) (set_length now i s)
    ∙ sym (set_padded now (replicate (shards - length now) untold) i s less)
    ∙ ap (λ l. set l i s) (ap (all_slots shards) is ∙ reached shards told n (subst (λ k. k ≤ shards) many fits))

pub reached_at : (told now : List ShardSlot) (i n : ℕ) → now ≡ told ++ replicate n untold → get_or now i untold ≡ get_or told i untold
reached_at told now i n is = ap (λ l. get_or l i untold) is ∙ at_padded told n i

-- ---- which of them receive
none_receives : (n : ℕ) → map receives (replicate n untold) ≡ replicate n false
none_receives zero = refl
none_receives (suc n) = ap (λ l. false ∷ l) (none_receives n)

receives_padded : (told : List ShardSlot) (n : ℕ) → map receives (told ++ replicate n untold) ≡ map receives told ++ replicate n false
receives_padded [] n = none_receives n
receives_padded (slot ∷ told) n = ap (λ l. receives slot ∷ l) (receives_padded told n)

pub next_passed : (passed : List Bool) (n k : ℕ) → n ≤ k → (passed ++ replicate (k - n) false) ++ false ∷ [] ≡ passed ++ replicate (k + 1 - n) false
next_passed passed n k less =
    append_assoc passed (replicate (k - n) false) (false ∷ []) ∙ ap (λ l. passed ++ l) (one_more (k - n) ∙ ap (λ j. replicate j false) (let e : k - n + 1 ≡ k + 1 - n = omega (arith, less) in e))

pub all_passed : (shards k : ℕ) (told : List ShardSlot) → k ≡ shards → map receives told ++ replicate (k - length told) false ≡ map receives (all_slots shards told)
all_passed shards k told same = ap (λ j. map receives told ++ replicate (j - length told) false) same ∙ sym (receives_padded told (shards - length told))

-- ---- a region whose slots are kept so
abbrev pub kept_as : DivisionModel → ℕ → List ShardSlot → List Message → ℕ → RegionModel
kept_as division shards told messages most = record { division = division; slots = all_slots shards told; messages = messages; most = most }

-- the slots reach to a shard, and its slot becomes another
pub slot_changed : (region : RegionModel) (division : DivisionModel) (shards : ℕ) (told now : List ShardSlot) (messages : List Message) (most shard : ℕ) (s : ShardSlot) (f : ShardSlot → ShardSlot) → kept_as division shards told messages most ≡ region
    → length told ≤ shards → shard < length region.slots → now ≡ told ++ replicate (shard + 1 - length told) untold → s ≡ f (get_or now shard untold)
    → kept_as division shards (set now shard s) messages most ≡ with_slot region shard (f (slot_of region shard))
slot_changed region division shards told now messages most shard s f same fits inside reaches is =
    let n = shard + 1 - length told in
    let all = all_length shards told fits in
    let below : shard < shards = subst (λ k. shard < k) (ap (λ (r : RegionModel). length r.slots) (sym same) ∙ all) inside in
    let many : length now ≡ length told + n = ap length reaches ∙ length-append told (replicate n untold) ∙ ap (λ k. length told + k) (length-replicate n untold) in
    ap (λ l. record { division = division; slots = l; messages = messages; most = most })
    (reached_set shards told now shard n s reaches (omega (arith, many, below, fits)) (omega (arith, many, below, fits))
    ∙ ap (set (all_slots shards told) shard) (is ∙ ap f (reached_at told now shard n reaches ∙ sym (at_all shards told shard))))
    ∙ ap (λ r. with_slot r shard (f (slot_of r shard))) same

-- and there are not too many
pub changed_fits : (region : RegionModel) (division : DivisionModel) (shards : ℕ) (told now : List ShardSlot) (messages : List Message) (most shard : ℕ) (s : ShardSlot) → kept_as division shards told messages most ≡ region → length told ≤ shards
    → shard < length region.slots → now ≡ told ++ replicate (shard + 1 - length told) untold → length (set now shard s) ≤ shards
changed_fits region division shards told now messages most shard s same fits inside reaches =
    let n = shard + 1 - length told in
    let below : shard < shards = subst (λ k. shard < k) (ap (λ (r : RegionModel). length r.slots) (sym same) ∙ all_length shards told fits) inside in
    let many : length now ≡ length told + n = ap length reaches ∙ length-append told (replicate n untold) ∙ ap (λ k. length told + k) (length-replicate n untold) in
    let long : length (set now shard s) ≡ length now = set_length now shard s in
    omega (arith, many, long, below, fits)

-- what was written over a whole list, in the room that it had
pub whole_written : {X : Type 0} (len : ℕ) (before now : List X) → len ≡ length before → length now ≡ length before → take len (now ++ drop (length now) before) ≡ now
whole_written len before now long many =
    ap (λ l. take len (now ++ l)) (drop_all (length now) before (omega (arith, many)))
    ∙ ap (take len) (append-nil now)
    ∙ take_all len now (omega (arith, many, long))

pub strangers_gone : (s : Standings) (region : RegionModel) (division : DivisionModel) (shards len : ℕ) (told now : List ShardSlot) (messages : List Message) (most : ℕ) → kept_as division shards told messages most ≡ region
    → len ≡ length told → now ≡ map (without_stranger s) told → kept_as division shards (take len (now ++ drop (length now) told)) messages most ≡ after_forget s region
strangers_gone s region division shards len told now messages most same long is =
    ap (λ l. kept_as division shards l messages most) (whole_written len told now long (ap length is ∙ map_length s told) ∙ is) ∙ ap (λ l. record { division = division; slots = l; messages = messages; most = most }) (all_forgotten s shards told) ∙ ap (after_forget s) same
