-- Entities are active only where their shard is hosted: each rule keeps that, and what its actions tell of entities is what the node
-- keeps.
use Rattle.std.proofs.Common.{◌≡◌, ◌≢◌, ◌⊎◌, inl, inr, ℕ, zero, suc, ◌==◌, Bool, true, false, cond, ◌&&◌, not, List, [], ◌∷◌, ◌++◌, length, length-set, map, get_or, set, Contains, Option, None, Some, is_some, refl, sym, ap, ◌∙◌, subst, true≢false}
use Rattle.std.proofs.lemmas.Option.{same_Some}
use Rattle.std.proofs.lemmas.Bool.{eqb-true, eq-eqb}
use Rattle.std.proofs.lemmas.List.{get_or-set_other, length-map}
use Rattle.std.proofs.lemmas.Map.Lookups.{exact_bytes}
use Rattle.std.specs.FinMap as finmap
use Rattle.std.specs.Ordering.{is_eq}
use Rattle.ak_address.proofs.Elements.{contains_first, contains_left, contains_nothing, contains_either, first_or_rest}
use Rattle.ak_address.proofs.Pairs.{is_equal}
use Rattle.ak_address.proofs.BoolLemmas.{both_true}
use Rattle.ak_address.specs.Unique.{UniqueModel}
use Rattle.ak_entity.specs.Active.{ActiveEntity, entity_cmp}
use Rattle.ak_entity.specs.Entities.{delivered, without_shard}
use Rattle.ak_entity.proofs.EntityLaws.{own_delivery, other_delivery, stopped_shard}
use Rattle.ak_shard_id.specs.Division.{DivisionModel, shard_in}
use Rattle.std.proofs.lemmas.Cmp.{nat_list_cmp_total, tied_itself}
use Rattle.ak_promise.specs.Ballot.{BallotModel}
use Rattle.ak_region.specs.declared.region.Offered.TheVariants as offered
use Rattle.ak_region.specs.declared.slot.Hosting.{Hosting}
use Rattle.ak_region.specs.declared.slot.Hosting.TheVariants.{New, Again, Ignored}
use Rattle.ak_region.specs.RegionModel.{Message}
use Rattle.ak_region.specs.Shards.{ShardSlot}
use Rattle.ak_region.specs.Slot.{untold, receives, other_home, at_home, host_answer, after_host, begun, gives_up, handed_off, without_stranger}
use Rattle.ak_region.specs.Region.{slot_of, with_slot, entity_shard, is_full, kept, flushed, after_flush, wanted, after_forget}
use Rattle.ak_region.proofs.MarkLemmas.{forgotten_slot}
use Rattle.ak_wire.specs.declared.action.Action.{Action}
use Rattle.ak_wire.specs.declared.action.Action as action
use Rattle.ak_wire.specs.declared.envelope.Message as wire
use Rattle.ak_sharding.specs.Sharding.{ShardingModel, Around, Outcome, nothing, and_then, and_does, to_process, delivery, delivers, routed, routes, routes_each, flushes}
use Rattle.ak_sharding.specs.Hosts.{has_shard, is_bound, learns_home, on_home, hosted_by, obeys, on_host_shard, holds, on_begin_hand_off, ends_shard, hands_off, on_hand_off, on_offer, asks_homes_of, asks_homes, forgets}
use Rattle.ak_sharding.specs.Alive.{IsActive, Hosts, AreHosted, starts_of, alive_then, alive_after, KeepsEntities}

-- ---- what actions tell, one list after another
alive_more : (division : DivisionModel) (a b : List ℕ → Type 0) → ((e : List ℕ) → a e → b e) → (x : Action) (e : List ℕ) → alive_then division a x e → alive_then division b x e
alive_more division a b more (action.TheVariants.Entity entity) e h = elim h [ inl was ↦ inl (more e was) | inr now ↦ inr now ]
alive_more division a b more (action.TheVariants.Gone shard) e h = (more e h.0, h.1)
alive_more division a b more action.TheVariants.Stopped e h = h
alive_more division a b more other e h = more e h

pub after_more : (division : DivisionModel) (a b : List ℕ → Type 0) → ((e : List ℕ) → a e → b e) → (xs : List Action) (e : List ℕ) → alive_after division a xs e → alive_after division b xs e
after_more division a b more [] e h = more e h
after_more division a b more (x ∷ xs) e h = after_more division (alive_then division a x) (alive_then division b x) (alive_more division a b more x) xs e h

after_both : (division : DivisionModel) (a : List ℕ → Type 0) (xs ys : List Action) (e : List ℕ) → alive_after division a (xs ++ ys) e → alive_after division (alive_after division a xs) ys e
after_both division a [] ys e h = h
after_both division a (x ∷ xs) ys e h = after_both division (alive_then division a x) xs ys e h

pub both_after : (division : DivisionModel) (a : List ℕ → Type 0) (xs ys : List Action) (e : List ℕ) → alive_after division (alive_after division a xs) ys e → alive_after division a (xs ++ ys) e
both_after division a [] ys e h = h
both_after division a (x ∷ xs) ys e h = both_after division (alive_then division a x) xs ys e h

-- actions that start nothing and end nothing
abbrev pub is_else : Action → Bool
is_else (action.TheVariants.Entity entity) = false
is_else (action.TheVariants.Gone shard) = false
is_else action.TheVariants.Stopped = false
is_else other = true

else_alive : (x : Action) → is_else x ≡ true → (division : DivisionModel) (a : List ℕ → Type 0) (e : List ℕ) → alive_then division a x e → a e
else_alive (action.TheVariants.Entity entity) t division a e h = absurd (true≢false (sym t))
else_alive (action.TheVariants.Gone shard) t division a e h = absurd (true≢false (sym t))
else_alive action.TheVariants.Stopped t division a e h = absurd (true≢false (sym t))
else_alive other t division a e h = h

alive_else : (x : Action) → is_else x ≡ true → (division : DivisionModel) (a : List ℕ → Type 0) (e : List ℕ) → a e → alive_then division a x e
alive_else (action.TheVariants.Entity entity) t division a e h = absurd (true≢false (sym t))
alive_else (action.TheVariants.Gone shard) t division a e h = absurd (true≢false (sym t))
alive_else action.TheVariants.Stopped t division a e h = absurd (true≢false (sym t))
alive_else other t division a e h = h

else_starts : (x : Action) → is_else x ≡ true → starts_of x ≡ None
else_starts (action.TheVariants.Entity entity) t = absurd (true≢false (sym t))
else_starts (action.TheVariants.Gone shard) t = refl
else_starts action.TheVariants.Stopped t = refl
else_starts other t = refl

abbrev pub Tells : List Action → Type 0
Tells [] = Unit {0}
Tells (x ∷ xs) = (is_else x ≡ true) × Tells xs

tells_alive : (division : DivisionModel) (a : List ℕ → Type 0) (xs : List Action) → Tells xs → (e : List ℕ) → alive_after division a xs e → a e
tells_alive division a [] t e h = h
tells_alive division a (x ∷ xs) t e h = else_alive x t.0 division a e (tells_alive division (alive_then division a x) xs t.1 e h)

pub alive_tells : (division : DivisionModel) (a : List ℕ → Type 0) (xs : List Action) → Tells xs → (e : List ℕ) → a e → alive_after division a xs e
alive_tells division a [] t e h = h
alive_tells division a (x ∷ xs) t e h = alive_tells division (alive_then division a x) xs t.1 e (alive_else x t.0 division a e h)

pub tells_both : (xs ys : List Action) → Tells xs → Tells ys → Tells (xs ++ ys)
tells_both [] ys t u = u
tells_both (x ∷ xs) ys t u = (t.0, tells_both xs ys t.1 u)

pub tells_starts : (xs : List Action) → Tells xs → (e : List ℕ) → Contains xs (action.TheVariants.Entity e) → ⊥
tells_starts [] t e there = contains_nothing _ there
tells_starts (x ∷ xs) t e there = elim (first_or_rest x (action.TheVariants.Entity e) xs there) [
  | inl same ↦ true≢false (ap is_some (ap starts_of same ∙ else_starts x t.0))
  | inr later ↦ tells_starts xs t.1 e later
]

-- a packet alone
tells_send : (me to : UniqueModel) (what : wire.Message) → Tells (to_process me to what ∷ [])
tells_send me to what = (refl, tt)

-- ---- what rules do
-- what was active stays so
pub record Adds (s : ShardingModel) (o : Outcome) : Type 0 where
  pub keeps : KeepsEntities s o
  pub stays : (e : List ℕ) → IsActive s e → IsActive o.0 e

same_hosts : (s t : ShardingModel) → AreHosted s → t.region.division ≡ s.region.division → t.entities ≡ s.entities → ((shard : ℕ) → Hosts s shard → Hosts t shard) → AreHosted t
same_hosts s t all many same hosts entity active at =
    let h = all entity active (ap (λ m. finmap.get m entity) (sym same) ∙ at) in
    (h.0 ∙ ap (λ d. shard_in d entity) (sym many), hosts active.shard h.1)

-- entities and hosted shards stay, or more shards are hosted, and nothing is told of entities
pub quiet : (s t : ShardingModel) (actions : List Action) → AreHosted s → t.region.division ≡ s.region.division → t.entities ≡ s.entities → ((shard : ℕ) → Hosts s shard → Hosts t shard) → Tells actions → Adds s (t, actions)
quiet s t actions all many same hosts tells = record {
  keeps = record {
    hosted = same_hosts s t all many same hosts;
    divided = many;
    alive = λ e h. subst (λ m. is_some (finmap.get m e) ≡ true) (sym same) (tells_alive s.region.division (IsActive s) actions tells e h);
    told = λ e h. alive_tells s.region.division (IsActive s) actions tells e (subst (λ m. is_some (finmap.get m e) ≡ true) same h);
    started = λ e there. absurd (tells_starts actions tells e there);
  };
  stays = λ e h. subst (λ m. is_some (finmap.get m e) ≡ true) (sym same) h;
}

then_adds : (next : ShardingModel → Outcome) (s : ShardingModel) (o : Outcome) → Adds s o → (AreHosted o.0 → Adds o.0 (next o.0)) → Adds s (and_then next o)
then_adds next s o a rest =
    let b = rest a.keeps.hosted in
    record {
      keeps = record {
        hosted = b.keeps.hosted;
        divided = b.keeps.divided ∙ a.keeps.divided;
        alive = λ e h.
            let first = after_both s.region.division (IsActive s) o.1 (next o.0).1 e h in
            let then_is = after_more s.region.division (alive_after s.region.division (IsActive s) o.1) (IsActive o.0) a.keeps.alive (next o.0).1 e first in
            b.keeps.alive e (subst (λ k. alive_after k (IsActive o.0) (next o.0).1 e) (sym a.keeps.divided) then_is);
        told = λ e h.
            let last = subst (λ k. alive_after k (IsActive o.0) (next o.0).1 e) a.keeps.divided (b.keeps.told e h) in
            let then_is = after_more s.region.division (IsActive o.0) (alive_after s.region.division (IsActive s) o.1) a.keeps.told (next o.0).1 e last in
            both_after s.region.division (IsActive s) o.1 (next o.0).1 e then_is;
        started = λ e there. elim (contains_either o.1 (next o.0).1 _ there) [ inl one ↦ b.stays e (a.keeps.started e one) | inr two ↦ b.keeps.started e two ];
      };
      stays = λ e h. b.stays e (a.stays e h);
    }

-- what is told before and after
tell_around : (s : ShardingModel) (o : Outcome) (before after : List Action) → Tells before → Tells after → Adds s o → Adds s (o.0, before ++ (o.1 ++ after))
tell_around s o before after tb ta a = record {
  keeps = record {
    hosted = a.keeps.hosted;
    divided = a.keeps.divided;
    alive = λ e h.
        let k = s.region.division in
        let x = after_both k (IsActive s) before (o.1 ++ after) e h in
        let y = after_more k (alive_after k (IsActive s) before) (IsActive s) (tells_alive k (IsActive s) before tb) (o.1 ++ after) e x in
        let z = after_both k (IsActive s) o.1 after e y in
        a.keeps.alive e (tells_alive k (alive_after k (IsActive s) o.1) after ta e z);
    told = λ e h.
        let k = s.region.division in
        let z = alive_tells k (alive_after k (IsActive s) o.1) after ta e (a.keeps.told e h) in
        let y = both_after k (IsActive s) o.1 after e z in
        let x = after_more k (IsActive s) (alive_after k (IsActive s) before) (alive_tells k (IsActive s) before tb) (o.1 ++ after) e y in
        both_after k (IsActive s) before (o.1 ++ after) e x;
    started = λ e there. elim (contains_either before (o.1 ++ after) _ there) [
      | inl one ↦ absurd (tells_starts before tb e one)
      | inr more ↦ elim (contains_either o.1 after _ more) [ inl two ↦ a.keeps.started e two | inr three ↦ absurd (tells_starts after ta e three) ]
    ];
  };
  stays = a.stays;
}

-- ---- a delivery
module _ (s : ShardingModel) (all : AreHosted s) (entity : List ℕ) (payload : ℕ) (hosts : Hosts s (entity_shard s.region entity)) where
  abbrev t : ShardingModel
  t = (delivers entity payload s).0

  one_or_other : (P : Type 0) → (e : List ℕ) → (e ≡ entity → P) → ((e ≢ entity) → P) → P
  one_or_other P e here there = go (is_eq (entity_cmp e entity)) refl
    where
      go : (b : Bool) → is_eq (entity_cmp e entity) ≡ b → P
      go true same = here (exact_bytes e entity (is_equal (entity_cmp e entity) _ refl same))
      go false apart = there (λ same. true≢false (sym (ap (λ x. is_eq (entity_cmp x entity)) same ∙ itself) ∙ apart))
        where
          itself : is_eq (entity_cmp entity entity) ≡ true
          itself = ap is_eq (tied_itself nat_list_cmp_total entity)

  by_old : (o : Option ActiveEntity) → finmap.get s.entities entity ≡ o → (delivered (entity_shard s.region entity) payload o).shard ≡ entity_shard s.region entity
  by_old None none = refl
  by_old (Some old) some = (all entity old some).0

  is_own : (finmap.get t.entities entity) ≡ Some (delivered (entity_shard s.region entity) payload (finmap.get s.entities entity))
  is_own = own_delivery s.entities (entity_shard s.region entity) payload entity

  hosted_then : AreHosted t
  hosted_then e active at =
      one_or_other ((active.shard ≡ entity_shard s.region e) × Hosts s active.shard) e
      (λ same.
      let a : delivered (entity_shard s.region entity) payload (finmap.get s.entities entity) ≡ active = same_Some _ active (sym is_own ∙ ap (finmap.get t.entities) (sym same) ∙ at) in
      let shard : active.shard ≡ entity_shard s.region entity = ap (λ (x : ActiveEntity). x.shard) (sym a) ∙ by_old (finmap.get s.entities entity) refl in
      (shard ∙ ap (entity_shard s.region) (sym same), subst (Hosts s) (sym shard) hosts))
      (λ apart. all e active (sym (other_delivery s.entities (entity_shard s.region entity) payload entity e apart) ∙ at))

  stays_then : (e : List ℕ) → IsActive s e → IsActive t e
  stays_then e h =
      one_or_other (IsActive t e) e
      (λ same. subst (IsActive t) (sym same) (ap is_some is_own))
      (λ apart. ap is_some (other_delivery s.entities (entity_shard s.region entity) payload entity e apart) ∙ h)

  was_then : (e : List ℕ) → IsActive t e → IsActive s e ⊎ (e ≡ entity)
  was_then e h =
      one_or_other (IsActive s e ⊎ (e ≡ entity)) e
      (λ same. inr same)
      (λ apart. inl (ap is_some (sym (other_delivery s.entities (entity_shard s.region entity) payload entity e apart)) ∙ h))

  was_active : finmap.contains_key s.entities entity ≡ true → (e : List ℕ) → IsActive t e → IsActive s e
  was_active key e h = elim (was_then e h) [ inl was ↦ was | inr same ↦ subst (IsActive s) (sym same) key ]

  delivers_adds : Adds s (delivers entity payload s)
  delivers_adds = by_key (finmap.contains_key s.entities entity) refl
    where
      by_key : (b : Bool) → finmap.contains_key s.entities entity ≡ b → Adds s (t, delivery b entity payload)
      by_key true key = record {
        keeps = record { hosted = hosted_then; divided = refl; alive = stays_then; told = was_active key; started = λ e there. absurd (tells_starts (action.TheVariants.Deliver entity payload ∷ []) (refl, tt) e there) };
        stays = stays_then;
      }
      by_key false key = record {
        keeps = record {
          hosted = hosted_then;
          divided = refl;
          alive = λ e h. elim h [ inl was ↦ stays_then e was | inr same ↦ subst (IsActive t) (sym same) (ap is_some is_own) ];
          told = was_then;
          started = λ e there. elim (first_or_rest (action.TheVariants.Entity entity) (action.TheVariants.Entity e) (action.TheVariants.Deliver entity payload ∷ []) there) [
            | inl same ↦ subst (IsActive t) (sym (same_Some e entity (ap starts_of same))) (ap is_some is_own)
            | inr later ↦ absurd (tells_starts (action.TheVariants.Deliver entity payload ∷ []) (refl, tt) e later)
          ];
        };
        stays = stays_then;
      }

-- ---- routes and flushes
receives_hosts : (slot : ShardSlot) → receives slot ≡ true → is_some slot.hosted ≡ true
receives_hosts slot is = (both_true (is_some slot.hosted) (not slot.held) is).0

pub routes_adds : (me : UniqueModel) (message : Message) (s : ShardingModel) → AreHosted s → Adds s (routes me message s)
routes_adds me message s all = by_receives (receives (slot_of s.region (entity_shard s.region message.entity))) refl
  where
    by_room : (full : Bool) (o : Option UniqueModel) → Adds s (routed me message (kept full message.entity o) s)
    by_room true None = quiet s s _ all refl refl (λ shard h. h) (refl, tt)
    by_room false None = quiet s _ _ all refl refl (λ shard h. h) (refl, tt)
    by_room full (Some home) = quiet s s _ all refl refl (λ shard h. h) (refl, (refl, tt))

    by_receives : (b : Bool) → receives (slot_of s.region (entity_shard s.region message.entity)) ≡ b
        → Adds s (routed me message (cond b (offered.Delivered message.entity) (kept (is_full s.region) message.entity (other_home me (slot_of s.region (entity_shard s.region message.entity))))) s)
    by_receives true is = delivers_adds s all message.entity message.payload (receives_hosts (slot_of s.region (entity_shard s.region message.entity)) is)
    by_receives false is = by_room (is_full s.region) (other_home me (slot_of s.region (entity_shard s.region message.entity)))

pub nothing_adds : (s : ShardingModel) → AreHosted s → Adds s (nothing s)
nothing_adds s all = quiet s s [] all refl refl (λ shard h. h) tt

each_adds : (me : UniqueModel) (messages : List Message) (s : ShardingModel) → AreHosted s → Adds s (routes_each me messages s)
each_adds me [] s all = nothing_adds s all
each_adds me (message ∷ messages) s all = then_adds (routes_each me messages) s (routes me message s) (routes_adds me message s all) (λ then_all. each_adds me messages (routes me message s).0 then_all)

-- from a state with the same entities, of which more shards may be hosted
from_more : (s t : ShardingModel) (o : Outcome) → t.entities ≡ s.entities → t.region.division ≡ s.region.division → Adds t o → Adds s o
from_more s t o same many a = record {
  keeps = record {
    hosted = a.keeps.hosted;
    divided = a.keeps.divided ∙ many;
    alive = λ e h. a.keeps.alive e (subst (λ k. alive_after k (IsActive t) o.1 e) (sym many) (after_more s.region.division (IsActive s) (IsActive t) was o.1 e h));
    told = λ e h. after_more s.region.division (IsActive t) (IsActive s) is_then o.1 e (subst (λ k. alive_after k (IsActive t) o.1 e) many (a.keeps.told e h));
    started = a.keeps.started;
  };
  stays = λ e h. a.stays e (was e h);
}
  where
    was : (e : List ℕ) → IsActive s e → IsActive t e
    was e h = subst (λ m. is_some (finmap.get m e) ≡ true) (sym same) h

    is_then : (e : List ℕ) → IsActive t e → IsActive s e
    is_then e h = subst (λ m. is_some (finmap.get m e) ≡ true) same h

pub flushes_adds : (me : UniqueModel) (shard : ℕ) (s : ShardingModel) → AreHosted s → Adds s (flushes me shard s)
flushes_adds me shard s all =
    from_more s (record s { region = after_flush me shard s.region }) (flushes me shard s) refl refl (each_adds me (flushed me shard s.region) (record s { region = after_flush me shard s.region }) (same_hosts s (record s { region = after_flush me shard s.region }) all refl refl (λ k h. h)))

-- ---- one slot is replaced, and hosts where it did
slot_hosts : (s : ShardingModel) (shard : ℕ) (slot : ShardSlot) → (is_some (slot_of s.region shard).hosted ≡ true → is_some slot.hosted ≡ true) → (k : ℕ) → Hosts s k → Hosts (record s { region = with_slot s.region shard slot }) k
slot_hosts s shard slot more k h = go (k == shard) refl (get_or_set s.region.slots shard slot k)
  where
    go : (b : Bool) → (k == shard) ≡ b → (get_or (set s.region.slots shard slot) k untold ≡ slot) ⊎ (get_or (set s.region.slots shard slot) k untold ≡ get_or s.region.slots k untold) → is_some (get_or (set s.region.slots shard slot) k untold).hosted ≡ true
    go true at (inl is) = ap (λ (x : ShardSlot). is_some x.hosted) is ∙ more (ap (λ j. is_some (slot_of s.region j).hosted) (sym (eqb-true k shard at)) ∙ h)
    go true at (inr is) = ap (λ (x : ShardSlot). is_some x.hosted) is ∙ h
    go false at either = ap (λ (x : ShardSlot). is_some x.hosted) (get_or-set_other s.region.slots shard k slot untold (λ same. true≢false (sym (eq-eqb k shard same) ∙ at))) ∙ h

    get_or_set : (xs : List ShardSlot) (i : ℕ) (x : ShardSlot) (k : ℕ) → (get_or (set xs i x) k untold ≡ x) ⊎ (get_or (set xs i x) k untold ≡ get_or xs k untold)
    get_or_set [] i x k = inr refl
    get_or_set (y ∷ xs) zero x zero = inl refl
    get_or_set (y ∷ xs) zero x (suc k) = inr refl
    get_or_set (y ∷ xs) (suc i) x zero = inr refl
    get_or_set (y ∷ xs) (suc i) x (suc k) = get_or_set xs i x k

-- ---- rules of a region
if_both : (a b : Bool) (s : ShardingModel) (o : Outcome) → AreHosted s → Adds s o → Adds s (cond (a && b) o (nothing s))
if_both true true s o all rule = rule
if_both true false s o all rule = nothing_adds s all
if_both false b s o all rule = nothing_adds s all

abbrev slotted : ShardingModel → ℕ → ShardSlot → ShardingModel
slotted s shard slot = record s { region = with_slot s.region shard slot }

slotted_all : (s : ShardingModel) (shard : ℕ) (slot : ShardSlot) → (is_some (slot_of s.region shard).hosted ≡ true → is_some slot.hosted ≡ true) → AreHosted s → AreHosted (slotted s shard slot)
slotted_all s shard slot more all = same_hosts s (slotted s shard slot) all refl refl (slot_hosts s shard slot more)

slotted_flush : (me : UniqueModel) (s : ShardingModel) (shard : ℕ) (slot : ShardSlot) → (is_some (slot_of s.region shard).hosted ≡ true → is_some slot.hosted ≡ true) → AreHosted s → Adds s (flushes me shard (slotted s shard slot))
slotted_flush me s shard slot more all =
    from_more s (slotted s shard slot) (flushes me shard (slotted s shard slot)) refl refl (flushes_adds me shard (slotted s shard slot) (slotted_all s shard slot more all))

pub on_home_adds : (around : Around) (b : BallotModel) (shard : ℕ) (owner : UniqueModel) (s : ShardingModel) → AreHosted s → Adds s (on_home around b shard owner s)
on_home_adds around b shard owner s all =
    (if_both (has_shard shard s) (is_bound around b) s (flushes around.me shard (learns_home around.me shard owner s)) all (slotted_flush around.me s shard (at_home owner (slot_of s.region shard)) (λ h. h) all))

pub on_home_keeps : (around : Around) (b : BallotModel) (shard : ℕ) (owner : UniqueModel) (s : ShardingModel) → AreHosted s → KeepsEntities s (on_home around b shard owner s)
on_home_keeps around b shard owner s all = (on_home_adds around b shard owner s all).keeps

obeys_adds : (around : Around) (from : UniqueModel) (b : BallotModel) (shard number : ℕ) (h : Hosting) (s : ShardingModel) → AreHosted s → Adds s (obeys around from b shard number h s)
obeys_adds around from b shard number New s all =
    tell_around s (flushes around.me shard (hosted_by around.me shard number New s)) (action.TheVariants.Host shard number ∷ []) (to_process around.me from (wire.TheVariants.ShardStarted b shard number) ∷ [])
    (refl, tt) (tells_send around.me from (wire.TheVariants.ShardStarted b shard number))
    (slotted_flush around.me s shard (after_host around.me number New (slot_of s.region shard)) (λ h. refl) all)
obeys_adds around from b shard number Again s all =
    quiet s (hosted_by around.me shard number Again s) _ all refl refl (slot_hosts s shard (slot_of s.region shard) (λ h. h)) (tells_send around.me from (wire.TheVariants.ShardStarted b shard number))
obeys_adds around from b shard number Ignored s all =
    quiet s (hosted_by around.me shard number Ignored s) [] all refl refl (slot_hosts s shard (slot_of s.region shard) (λ h. h)) tt

pub on_host_shard_adds : (around : Around) (from : UniqueModel) (b : BallotModel) (shard number : ℕ) (s : ShardingModel) → AreHosted s → Adds s (on_host_shard around from b shard number s)
on_host_shard_adds around from b shard number s all =
    (if_both (has_shard shard s) (is_bound around b) s (obeys around from b shard number (host_answer number (slot_of s.region shard)) s) all (obeys_adds around from b shard number (host_answer number (slot_of s.region shard)) s all))

pub on_host_shard_keeps : (around : Around) (from : UniqueModel) (b : BallotModel) (shard number : ℕ) (s : ShardingModel) → AreHosted s → KeepsEntities s (on_host_shard around from b shard number s)
on_host_shard_keeps around from b shard number s all = (on_host_shard_adds around from b shard number s all).keeps

pub on_begin_hand_off_adds : (around : Around) (from : UniqueModel) (b : BallotModel) (shard number : ℕ) (s : ShardingModel) → AreHosted s → Adds s (on_begin_hand_off around from b shard number s)
on_begin_hand_off_adds around from b shard number s all =
    (if_both (has_shard shard s) (is_bound around b) s (holds around from b shard number s) all
    (quiet s (slotted s shard (begun (slot_of s.region shard))) _ all refl refl (slot_hosts s shard (begun (slot_of s.region shard)) (λ h. h)) (tells_send around.me from (wire.TheVariants.BeginHandOffAck b shard number))))

pub on_begin_hand_off_keeps : (around : Around) (from : UniqueModel) (b : BallotModel) (shard number : ℕ) (s : ShardingModel) → AreHosted s → KeepsEntities s (on_begin_hand_off around from b shard number s)
on_begin_hand_off_keeps around from b shard number s all = (on_begin_hand_off_adds around from b shard number s all).keeps

pub on_offer_adds : (around : Around) (entity : List ℕ) (payload : ℕ) (s : ShardingModel) → AreHosted s → Adds s (on_offer around entity payload s)
on_offer_adds around entity payload s all =
    (routes_adds around.me (record { entity = entity; payload = payload }) s all)

pub on_offer_keeps : (around : Around) (entity : List ℕ) (payload : ℕ) (s : ShardingModel) → AreHosted s → KeepsEntities s (on_offer around entity payload s)
on_offer_keeps around entity payload s all = (on_offer_adds around entity payload s all).keeps

-- ---- a hand-off ends the entities of its shard, where that is given up
hands_off_keeps : (around : Around) (from : UniqueModel) (b : BallotModel) (shard number : ℕ) (s : ShardingModel) → AreHosted s → KeepsEntities s (hands_off around from b shard number s)
hands_off_keeps around from b shard number s all = by_given (gives_up number (slot_of s.region shard)) refl
  where
    told : Action
    told = to_process around.me from (wire.TheVariants.ShardStopped b shard number)

    by_given : (g : Bool) → gives_up number (slot_of s.region shard) ≡ g
        → KeepsEntities s (and_does (to_process around.me from (wire.TheVariants.ShardStopped b shard number) ∷ []) (ends_shard g shard (slotted s shard (handed_off number (slot_of s.region shard)))))
    by_given true gone = record {
      hosted = λ entity active at.
          let k = (stopped_shard s.entities shard entity active).0 at in
          let h = all entity active k.0 in (
            h.0,
            ap (λ (x : ShardSlot). is_some x.hosted) (get_or-set_other s.region.slots shard active.shard (handed_off number (slot_of s.region shard)) untold k.1) ∙ h.1,
          );
      divided = refl;
      alive = λ e h. by_active (finmap.get s.entities e) e refl h.0 h.1;
      told = λ e h. by_rest (finmap.get (without_shard s.entities shard) e) e refl h;
      started = λ e there. absurd (tells_starts (to_process around.me from (wire.TheVariants.ShardStopped b shard number) ∷ []) (tells_send around.me from (wire.TheVariants.ShardStopped b shard number)) e (after_gone e there));
    }
      where
        after_gone : (e : List ℕ) → Contains (action.TheVariants.Gone shard ∷ to_process around.me from (wire.TheVariants.ShardStopped b shard number) ∷ []) (action.TheVariants.Entity e)
            → Contains (to_process around.me from (wire.TheVariants.ShardStopped b shard number) ∷ []) (action.TheVariants.Entity e)
        after_gone e there = elim (first_or_rest (action.TheVariants.Gone shard) (action.TheVariants.Entity e) (to_process around.me from (wire.TheVariants.ShardStopped b shard number) ∷ []) there) [ inl same ↦ absurd (true≢false (ap is_some (ap starts_of same))) | inr later ↦ later ]

        by_active : (o : Option ActiveEntity) (e : List ℕ) → finmap.get s.entities e ≡ o → is_some (finmap.get s.entities e) ≡ true → shard_in s.region.division e ≢ shard → is_some (finmap.get (without_shard s.entities shard) e) ≡ true
        by_active None e none is apart = absurd (true≢false (sym is ∙ ap is_some none))
        by_active (Some active) e at is apart = ap is_some ((stopped_shard s.entities shard e active).1 (at, λ same. apart (sym (all e active at).0 ∙ same)))

        by_rest : (o : Option ActiveEntity) (e : List ℕ) → finmap.get (without_shard s.entities shard) e ≡ o → is_some o ≡ true → (is_some (finmap.get s.entities e) ≡ true) × (shard_in s.region.division e ≢ shard)
        by_rest None e none is = absurd (true≢false (sym is))
        by_rest (Some active) e at is =
            let k = (stopped_shard s.entities shard e active).0 at in
            (ap is_some k.0, λ same. k.1 ((all e active k.0).0 ∙ same))
    by_given false stays =
        (quiet s (slotted s shard (handed_off number (slot_of s.region shard))) (to_process around.me from (wire.TheVariants.ShardStopped b shard number) ∷ []) all refl refl
        (slot_hosts s shard (handed_off number (slot_of s.region shard)) (λ h. ap (λ g. is_some (cond {A = Option ℕ} g None (slot_of s.region shard).hosted)) stays ∙ h))
        (tells_send around.me from (wire.TheVariants.ShardStopped b shard number))).keeps

pub on_hand_off_keeps : (around : Around) (from : UniqueModel) (b : BallotModel) (shard number : ℕ) (s : ShardingModel) → AreHosted s → KeepsEntities s (on_hand_off around from b shard number s)
on_hand_off_keeps around from b shard number s all = by_tests (has_shard shard s) (is_bound around b)
  where
    by_tests : (x y : Bool) → KeepsEntities s (cond (x && y) (hands_off around from b shard number s) (nothing s))
    by_tests true true = hands_off_keeps around from b shard number s all
    by_tests true false = (nothing_adds s all).keeps
    by_tests false y = (nothing_adds s all).keeps

-- ---- ticks and the closing
pub tells_each : (b : BallotModel) (around : Around) (shards : List ℕ) → Tells (map (λ shard. to_process around.me b.unique (wire.TheVariants.GetHome b shard)) shards)
tells_each b around [] = tt
tells_each b around (shard ∷ shards) = (refl, tells_each b around shards)

pub asks_homes_adds : (around : Around) (s : ShardingModel) → AreHosted s → Adds s (asks_homes around s)
asks_homes_adds around s all = by_last around.singleton.promise.last
  where
    by_last : (o : Option BallotModel) → Adds s (s, asks_homes_of o around s)
    by_last None = nothing_adds s all
    by_last (Some b) = quiet s s _ all refl refl (λ k h. h) (tells_each b around (wanted s.region))

pub asks_homes_keeps : (around : Around) (s : ShardingModel) → AreHosted s → KeepsEntities s (asks_homes around s)
asks_homes_keeps around s all = (asks_homes_adds around s all).keeps

pub forgets_adds : (around : Around) (s : ShardingModel) → AreHosted s → Adds s (forgets around s)
forgets_adds around s all =
    (quiet s (record s { region = after_forget around.members s.region }) [] all refl refl
    (λ k h. ap (λ (x : ShardSlot). is_some x.hosted) (forgotten_slot around.members s.region.slots k) ∙ h) tt)

pub forgets_keeps : (around : Around) (s : ShardingModel) → AreHosted s → KeepsEntities s (forgets around s)
forgets_keeps around s all = (forgets_adds around s all).keeps

-- ---- an entity ends only where its shard is told to be gone
ends_stays : (g : Bool) (shard : ℕ) (s : ShardingModel) → AreHosted s → (k : DivisionModel) → k ≡ s.region.division → (slot : ShardSlot) → (e : List ℕ) → IsActive s e → (Contains ((ends_shard g shard (slotted s shard slot)).1) (action.TheVariants.Gone (shard_in k e)) → ⊥) → IsActive (ends_shard g shard (slotted s shard slot)).0 e
ends_stays false shard s all k many slot e active none = active
ends_stays true shard s all k many slot e active none = by_active (finmap.get s.entities e) refl active
  where
    by_active : (o : Option ActiveEntity) → finmap.get s.entities e ≡ o → is_some o ≡ true → is_some (finmap.get (without_shard s.entities shard) e) ≡ true
    by_active None at is = absurd (true≢false (sym is))
    by_active (Some found) at is = ap is_some ((stopped_shard s.entities shard e found).1 (
      at,
      λ same.
          none (subst (λ j. Contains (action.TheVariants.Gone shard ∷ []) (action.TheVariants.Gone j)) (sym same ∙ (all e found at).0 ∙ ap (λ d. shard_in d e) (sym many)) (contains_first (action.TheVariants.Gone shard) [])),
    ))

pub on_hand_off_stays : (around : Around) (from : UniqueModel) (b : BallotModel) (shard number : ℕ) (s : ShardingModel) → AreHosted s → (e : List ℕ) → IsActive s e
    → (Contains (on_hand_off around from b shard number s).1 (action.TheVariants.Gone (shard_in s.region.division e)) → ⊥) → IsActive (on_hand_off around from b shard number s).0 e
on_hand_off_stays around from b shard number s all e active = by_tests (has_shard shard s) (is_bound around b)
  where
    told : List Action
    told = to_process around.me from (wire.TheVariants.ShardStopped b shard number) ∷ []

    by_tests : (x y : Bool) → (Contains (cond (x && y) (hands_off around from b shard number s) (nothing s)).1 (action.TheVariants.Gone (shard_in s.region.division e)) → ⊥) → IsActive (cond (x && y) (hands_off around from b shard number s) (nothing s)).0 e
    by_tests true true none =
        ends_stays (gives_up number (slot_of s.region shard)) shard s all s.region.division refl (handed_off number (slot_of s.region shard)) e active
        (λ there. none (contains_left (ends_shard (gives_up number (slot_of s.region shard)) shard (slotted s shard (handed_off number (slot_of s.region shard)))).1 (to_process around.me from (wire.TheVariants.ShardStopped b shard number) ∷ []) (action.TheVariants.Gone (shard_in s.region.division e)) there))
    by_tests true false none = active
    by_tests false y none = active
