-- Slots whose homes are all among those of a list: what keeps that true, and that there is nothing to forget where all of
-- these are members.
use Rattle.std.proofs.Common.{◌≡◌, ◌⊎◌, ℕ, zero, suc, ◌+◌, ◌-◌, ◌<◌, ◌≤◌, Bool, true, false, cond, List, [], ◌∷◌, ◌++◌, length, map, replicate, take, drop, get_or, set, Option, None, Some, inl, inr, refl, sym, ap, ◌∙◌, subst}
use Rattle.std.proofs.lemmas.Bool.{false≢true, and_parts, and_from, or_cases, or_left, or_right}
use Rattle.std.specs.List.{list_all, filter}
use Rattle.std.specs.Ordering.{is_eq}
use Rattle.ak_address.specs.Unique.{UniqueModel, unique_cmp}
use Rattle.ak_address.proofs.TableLaws.{key_itself, same_key}
use Rattle.ak_member.specs.Standing.{Standings, is_member}
use Rattle.ak_region.specs.declared.slot.Hosting.{Hosting}
use Rattle.ak_region.specs.declared.slot.Hosting.TheVariants.{New, Again, Ignored}
use Rattle.ak_shard_id.specs.Division.{DivisionModel}
use Rattle.ak_region.specs.Shards.{ShardSlot}
use Rattle.ak_region.specs.Slot.{untold, after_host, member_home, without_stranger}
use Rattle.ak_region.specs.Housed.{is_among, with_home, is_one, is_housed, are_housed}
use Rattle.ak_region.specs.RegionModel.{RegionModel, Message}
use Rattle.ak_region.specs.Region.{after_forget}
use Rattle.ak_region.specs.Stored.{all_slots, IsStored}
use Rattle.ak_region.proofs.StoredLemmas.{kept_as, changed_fits, whole_written, map_length}

-- ---- of homes
added : (homes more : List UniqueModel) (who : UniqueModel) → is_among homes who ≡ true → is_among (homes ++ more) who ≡ true
added [] more who there = absurd (false≢true there)
added (home ∷ homes) more who there = go (added homes more who) (or_cases (is_eq (unique_cmp home who)) (is_among homes who) there)
  where
    go : (is_among homes who ≡ true → is_among (homes ++ more) who ≡ true) → (is_eq (unique_cmp home who) ≡ true) ⊎ (is_among homes who ≡ true) → is_among ((home ∷ homes) ++ more) who ≡ true
    go rest (inl is) = or_left _ (is_among (homes ++ more) who) is
    go rest (inr there) = or_right (is_eq (unique_cmp home who)) _ (rest there)

at_end : (homes : List UniqueModel) (who : UniqueModel) → is_among (homes ++ who ∷ []) who ≡ true
at_end [] who = or_left _ false (key_itself who)
at_end (home ∷ homes) who = or_right (is_eq (unique_cmp home who)) _ (at_end homes who)

kept_with : (homes : List UniqueModel) (new who : UniqueModel) → is_among homes who ≡ true → is_among (with_home homes new) who ≡ true
kept_with homes new who there = go (is_among homes new)
  where
    go : (b : Bool) → is_among (cond b homes (homes ++ new ∷ [])) who ≡ true
    go true = there
    go false = added homes (new ∷ []) who there

pub itself_with : (homes : List UniqueModel) (new : UniqueModel) → is_among (with_home homes new) new ≡ true
itself_with homes new = go (is_among homes new) refl
  where
    go : (b : Bool) → is_among homes new ≡ b → is_among (cond b homes (homes ++ new ∷ [])) new ≡ true
    go true there = there
    go false _ = at_end homes new

-- one of those that all pass a test does
passes : (p : UniqueModel → Bool) (homes : List UniqueModel) (who : UniqueModel) → list_all p homes ≡ true → is_among homes who ≡ true → p who ≡ true
passes p [] who all there = absurd (false≢true there)
passes p (home ∷ homes) who all there =
    let parts = and_parts (p home) (list_all p homes) all in
    go parts.0 (passes p homes who parts.1) (or_cases (is_eq (unique_cmp home who)) (is_among homes who) there)
  where
    go : p home ≡ true → (is_among homes who ≡ true → p who ≡ true) → (is_eq (unique_cmp home who) ≡ true) ⊎ (is_among homes who ≡ true) → p who ≡ true
    go good rest (inl is) = ap p (sym (same_key home who is)) ∙ good
    go good rest (inr there) = rest there

-- and stands among those that pass
among_kept : (p : UniqueModel → Bool) (homes : List UniqueModel) (who : UniqueModel) → p who ≡ true → is_among homes who ≡ true → is_among (filter p homes) who ≡ true
among_kept p [] who good there = absurd (false≢true there)
among_kept p (home ∷ homes) who good there = go (among_kept p homes who good) (p home) refl (or_cases (is_eq (unique_cmp home who)) (is_among homes who) there)
  where
    go : (is_among homes who ≡ true → is_among (filter p homes) who ≡ true) → (b : Bool) → p home ≡ b → (is_eq (unique_cmp home who) ≡ true) ⊎ (is_among homes who ≡ true) → is_among (cond b (home ∷ filter p homes) (filter p homes)) who ≡ true
    go rest true _ (inl is) = or_left _ (is_among (filter p homes) who) is
    go rest true _ (inr there) = or_right (is_eq (unique_cmp home who)) _ (rest there)
    go rest false bad (inl is) = absurd (false≢true (sym bad ∙ ap p (same_key home who is) ∙ good))
    go rest false _ (inr there) = rest there

-- ---- of a slot
one_with : (homes : List UniqueModel) (new : UniqueModel) (home : Option UniqueModel) → is_one homes home ≡ true → is_one (with_home homes new) home ≡ true
one_with homes new None _ = refl
one_with homes new (Some home) there = kept_with homes new home there

same_home : (s : Standings) (homes : List UniqueModel) (home : Option UniqueModel) → list_all (is_member s) homes ≡ true → is_one homes home ≡ true → member_home s home ≡ home
same_home s homes None all _ = refl
same_home s homes (Some home) all there = ap (λ b. cond b (Some home) None) (passes (is_member s) homes home all there)

home_left : (s : Standings) (homes : List UniqueModel) (home : Option UniqueModel) → is_one homes home ≡ true → is_one (filter (is_member s) homes) (member_home s home) ≡ true
home_left s homes None _ = refl
home_left s homes (Some home) there = go (is_member s home) refl
  where
    go : (b : Bool) → is_member s home ≡ b → is_one (filter (is_member s) homes) (cond b (Some home) None) ≡ true
    go true good = among_kept (is_member s) homes home good there
    go false _ = refl

-- a node that is one of the homes hosts it, or leaves it
pub hosted_there : (homes : List UniqueModel) (me : UniqueModel) (number : ℕ) (hosting : Hosting) (slot : ShardSlot) → is_among homes me ≡ true → is_housed homes slot ≡ true → is_housed homes (after_host me number hosting slot) ≡ true
hosted_there homes me number New slot there housed = there
hosted_there homes me number Again slot there housed = housed
hosted_there homes me number Ignored slot there housed = housed

-- ---- of slots
padded : (homes : List UniqueModel) (told : List ShardSlot) (n : ℕ) → are_housed homes told ≡ true → are_housed homes (told ++ replicate n untold) ≡ true
padded homes [] zero _ = refl
padded homes [] (suc n) _ = padded homes [] n refl
padded homes (slot ∷ told) n all = let parts = and_parts (is_housed homes slot) (are_housed homes told) all in and_from _ _ parts.0 (padded homes told n parts.1)

set_one : (homes : List UniqueModel) (told : List ShardSlot) (i : ℕ) (s : ShardSlot) → is_housed homes s ≡ true → are_housed homes told ≡ true → are_housed homes (set told i s) ≡ true
set_one homes [] i s good all = refl
set_one homes (slot ∷ told) zero s good all = and_from _ _ good (and_parts (is_housed homes slot) (are_housed homes told) all).1
set_one homes (slot ∷ told) (suc i) s good all = let parts = and_parts (is_housed homes slot) (are_housed homes told) all in and_from _ _ parts.0 (set_one homes told i s good parts.1)

at_one : (homes : List UniqueModel) (told : List ShardSlot) (i : ℕ) → are_housed homes told ≡ true → is_housed homes (get_or told i untold) ≡ true
at_one homes [] i all = refl
at_one homes (slot ∷ told) zero all = (and_parts (is_housed homes slot) (are_housed homes told) all).0
at_one homes (slot ∷ told) (suc i) all = at_one homes told i (and_parts (is_housed homes slot) (are_housed homes told) all).1

-- with one home more
more_homes : (homes : List UniqueModel) (new : UniqueModel) (told : List ShardSlot) → are_housed homes told ≡ true → are_housed (with_home homes new) told ≡ true
more_homes homes new [] all = refl
more_homes homes new (slot ∷ told) all = let parts = and_parts (is_housed homes slot) (are_housed homes told) all in and_from _ _ (one_with homes new slot.home parts.0) (more_homes homes new told parts.1)

-- the slots reach to a shard, and its slot becomes another
changed : (homes : List UniqueModel) (told now : List ShardSlot) (i n : ℕ) (s : ShardSlot) (f : ShardSlot → ShardSlot) → now ≡ told ++ replicate n untold → s ≡ f (get_or now i untold)
    → ((slot : ShardSlot) → is_housed homes slot ≡ true → is_housed homes (f slot) ≡ true) → are_housed homes told ≡ true → are_housed homes (set now i s) ≡ true
changed homes told now i n s f reaches is keeps all =
    let all_now : are_housed homes now ≡ true = ap (are_housed homes) reaches ∙ padded homes told n all in
    set_one homes now i s (ap (is_housed homes) is ∙ keeps (get_or now i untold) (at_one homes now i all_now)) all_now

-- where all homes are members, nothing is forgotten
nothing_strange : (s : Standings) (homes : List UniqueModel) (slots : List ShardSlot) → list_all (is_member s) homes ≡ true → are_housed homes slots ≡ true → map (without_stranger s) slots ≡ slots
nothing_strange s homes [] members all = refl
nothing_strange s homes (slot ∷ slots) members all =
    let parts = and_parts (is_housed homes slot) (are_housed homes slots) all in
    ap (λ home. (record slot { home = home }) ∷ map (without_stranger s) slots) (same_home s homes slot.home members parts.0) ∙ ap (λ l. slot ∷ l) (nothing_strange s homes slots members parts.1)

-- where strangers are forgotten, they leave the homes
strangers_left : (s : Standings) (homes : List UniqueModel) (slots : List ShardSlot) → are_housed homes slots ≡ true → are_housed (filter (is_member s) homes) (map (without_stranger s) slots) ≡ true
strangers_left s homes [] all = refl
strangers_left s homes (slot ∷ slots) all = let parts = and_parts (is_housed homes slot) (are_housed homes slots) all in and_from _ _ (home_left s homes slot.home parts.0) (strangers_left s homes slots parts.1)

-- ---- of what is stored
-- a slot that the node was told of changes, and its home is one of the homes where it was so before
pub stored_change : (region : RegionModel) (division : DivisionModel) (shards capacity before most shard : ℕ) (homes : List UniqueModel) (told now : List ShardSlot) (messages : List Message) (s : ShardSlot) (f : ShardSlot → ShardSlot) → kept_as division shards told messages most ≡ region
    → IsStored division shards before most homes told messages → capacity ≡ before → shard < length region.slots → now ≡ told ++ replicate (shard + 1 - length told) untold → s ≡ f (get_or now shard untold)
    → ((slot : ShardSlot) → is_housed homes slot ≡ true → is_housed homes (f slot) ≡ true) → IsStored division shards capacity most homes (set now shard s) messages
stored_change region division shards capacity before most shard homes told now messages s f same stored room inside reaches is keeps =
    record {
      each = stored.each;
      all = stored.all;
      some = stored.some;
      few = stored.few;
      fits = changed_fits region division shards told now messages most shard s same stored.fits inside reaches;
      room = subst (λ k. shards ≤ k) (sym room) stored.room;
      within = stored.within;
      housed = changed homes told now shard (shard + 1 - length told) s f reaches is keeps stored.housed;
    }

-- there is one home more
pub stored_with : (division : DivisionModel) (shards capacity most : ℕ) (homes more : List UniqueModel) (new : UniqueModel) (told : List ShardSlot) (messages : List Message) → IsStored division shards capacity most homes told messages → more ≡ with_home homes new
    → IsStored division shards capacity most more told messages
stored_with division shards capacity most homes more new told messages stored is =
    record {
      each = stored.each;
      all = stored.all;
      some = stored.some;
      few = stored.few;
      fits = stored.fits;
      room = stored.room;
      within = stored.within;
      housed = ap (λ l. are_housed l told) is ∙ more_homes homes new told stored.housed;
    }

-- strangers are forgotten, and leave the homes
pub stored_forgotten : (s : Standings) (division : DivisionModel) (shards capacity most len : ℕ) (homes left : List UniqueModel) (told now : List ShardSlot) (messages : List Message) → IsStored division shards capacity most homes told messages
    → len ≡ length told → now ≡ map (without_stranger s) told → left ≡ filter (is_member s) homes → IsStored division shards capacity most left (take len (now ++ drop (length now) told)) messages
stored_forgotten s division shards capacity most len homes left told now messages stored long is leave =
    let whole = whole_written len told now long (ap length is ∙ map_length s told) ∙ is in
    record {
      each = stored.each;
      all = stored.all;
      some = stored.some;
      few = stored.few;
      fits = subst (λ k. k ≤ shards) (sym (ap length whole ∙ map_length s told)) stored.fits;
      room = stored.room;
      within = stored.within;
      housed = ap (are_housed left) whole ∙ ap (λ homes. are_housed homes (map (without_stranger s) told)) leave ∙ strangers_left s homes told stored.housed;
    }

-- all homes are members, and nothing is forgotten
pub nothing_forgotten : (s : Standings) (region : RegionModel) (division : DivisionModel) (shards capacity most : ℕ) (homes : List UniqueModel) (told : List ShardSlot) (messages : List Message) → kept_as division shards told messages most ≡ region
    → IsStored division shards capacity most homes told messages → list_all (is_member s) homes ≡ true → region ≡ after_forget s region
nothing_forgotten s region division shards capacity most homes told messages same stored members =
    sym same
    ∙ ap (λ l. record { division = division; slots = l; messages = messages; most = most })
    (sym (nothing_strange s homes (all_slots shards told) members (padded homes told (shards - length told) stored.housed)))
    ∙ ap (after_forget s) same
