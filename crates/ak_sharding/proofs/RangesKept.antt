-- Each rule of shards keeps the ranges, and what it sends has a spelling, where what it is told has one.
use Rattle.std.proofs.Common.{◌≡◌, ℕ, zero, suc, ◌^◌, ◌<◌, ◌≤◌, max, Bool, true, false, cond, ◌&&◌, List, [], ◌∷◌, ◌++◌, length, map, slice_index_or, slice_set, Option, None, Some, refl, sym, ap, subst, arith, if◌then◌else◌, ◌∙◌}
use Rattle.std.proofs.lemmas.Bool.{ltb-true}
use Rattle.std.specs.List.{filter}
use Rattle.std.specs.Ordering.{is_eq}
use Rattle.std.specs.FinMap as finmap
use Rattle.ak_address.specs.Unique.{UniqueModel, IsUnique, unique_cmp}
use Rattle.ak_clock.specs.declared.version.TheConstants.{BOUND}
use Rattle.ak_field.specs.Ranges.{IsEntity, IsNumber, IsShard}
use Rattle.ak_promise.specs.Ballot.{BallotModel, IsBallot}
use Rattle.ak_region.specs.declared.region.Offered.{Offered}
use Rattle.ak_region.specs.declared.region.Offered.TheVariants as offered
use Rattle.ak_region.specs.declared.slot.Hosting.{Hosting}
use Rattle.ak_region.specs.declared.slot.Hosting.TheVariants.{New, Again, Ignored}
use Rattle.ak_region.specs.Shards.{ShardSlot}
use Rattle.ak_region.specs.Slot.{untold, receives, other_home, other_than, can_flush, at_home, host_answer, after_host, begun, gives_up, handed_off, member_home, without_stranger}
use Rattle.ak_region.specs.RegionModel.{RegionModel, Message}
use Rattle.ak_region.specs.Region.{slot_of, with_slot, entity_shard, is_full, those_for, others_than_for, kept, route, flushed, after_flush}
use Rattle.ak_wire.specs.declared.envelope.Message as wire
use Rattle.ak_wire.specs.Datagram.{IsBody, is_for_anybody}
use Rattle.ak_sharding.specs.Sharding.{ShardingModel, Around, Outcome, nothing, to_process, delivery, routed, routes, routes_each, flushes}
use Rattle.ak_sharding.specs.Hosts.{has_shard, is_bound, learns_home, hosted_by, obeys, ends_shard, on_home, on_host_shard, on_begin_hand_off, on_hand_off, on_offer, forgets}
use Rattle.ak_sharding.specs.Ranges.{AllOf, IfThere, SlotInRange, MessageInRange, RegionInRange, InRange, AroundInRange, IsSentWell, GoesWell}

-- ---- lists
pub all_both : {X : Type 0} (P : X → Type 0) (xs ys : List X) → AllOf P xs → AllOf P ys → AllOf P (xs ++ ys)
all_both P [] ys a b = b
all_both P (x ∷ xs) ys a b = (a.0, all_both P xs ys a.1 b)

all_filter : {X : Type 0} (P : X → Type 0) (p : X → Bool) (xs : List X) → AllOf P xs → AllOf P (filter p xs)
all_filter P p [] a = tt
all_filter P p (x ∷ xs) a = by_test (p x) (all_filter P p xs a.1)
  where
    by_test : (b : Bool) → AllOf P (filter p xs) → AllOf P (cond b (x ∷ filter p xs) (filter p xs))
    by_test true rest = (a.0, rest)
    by_test false rest = rest

pub all_map : {X Y : Type 0} (P : X → Type 0) (Q : Y → Type 0) (f : X → Y) → ((x : X) → P x → Q (f x)) → (xs : List X) → AllOf P xs → AllOf Q (map f xs)
all_map P Q f each [] a = tt
all_map P Q f each (x ∷ xs) a = (each x a.0, all_map P Q f each xs a.1)

pub all_at : {X : Type 0} (P : X → Type 0) (xs : List X) (i : ℕ) (other : X) → AllOf P xs → P other → P (slice_index_or xs i other)
all_at P [] i other a p = p
all_at P (x ∷ xs) zero other a p = a.0
all_at P (x ∷ xs) (suc i) other a p = all_at P xs i other a.1 p

pub all_set : {X : Type 0} (P : X → Type 0) (xs : List X) (i : ℕ) (x : X) → AllOf P xs → P x → AllOf P (slice_set xs i x)
all_set P [] i x a p = tt
all_set P (y ∷ ys) zero x a p = (p, a.1)
all_set P (y ∷ ys) (suc i) x a p = (a.0, all_set P ys i x a.1 p)

pub set_many : {X : Type 0} (xs : List X) (i : ℕ) (x : X) → length (slice_set xs i x) ≡ length xs
set_many [] i x = refl
set_many (y ∷ ys) zero x = refl
set_many (y ∷ ys) (suc i) x = ap suc (set_many ys i x)

pub map_many : {X Y : Type 0} (f : X → Y) (xs : List X) → length (map f xs) ≡ length xs
map_many f [] = refl
map_many f (x ∷ xs) = ap suc (map_many f xs)

-- ---- what is sent
pub sent_to : (me to : UniqueModel) (what : wire.Message) → IsUnique me → IsUnique to → is_for_anybody what ≡ false → IsBody what → IsSentWell (to_process me to what)
sent_to me to what from is one body = record { from = from; to = is.address; uid = subst (λ b. Rattle.ak_wire.specs.Datagram.IsReceiverUid b to.uid) (sym one) (is.uid, is.uid_fits); body = body }

-- ---- the region
slot_in : (region : RegionModel) → RegionInRange region → (shard : ℕ) → SlotInRange (slot_of region shard)
slot_in region r shard = all_at SlotInRange region.slots shard untold r.slots (record { mark = omega arith; home = tt })

with_in : (region : RegionModel) (shard : ℕ) (slot : ShardSlot) → RegionInRange region → SlotInRange slot → RegionInRange (with_slot region shard slot)
with_in region shard slot r is = record { each = r.each; all = set_many region.slots shard slot ∙ r.all; some = subst (λ n. 1 ≤ n) (sym (set_many region.slots shard slot)) r.some; few = subst (λ n. n ≤ 1000) (sym (set_many region.slots shard slot)) r.few; slots = all_set SlotInRange region.slots shard slot r.slots is; waiting = r.waiting }

of_region : (s : ShardingModel) (region : RegionModel) → InRange s → RegionInRange region → InRange (record s { region = region })
of_region s region k r = record { region = r; table = k.table }

abbrev AnswerInRange : Offered → Type 0
AnswerInRange (offered.Forwarded home entity) = IsUnique home
AnswerInRange other = Unit {0}

abbrev slot_for : RegionModel → List ℕ → ShardSlot
slot_for region entity = slot_of region (entity_shard region entity)

route_in : (me : UniqueModel) (region : RegionModel) (entity : List ℕ) → RegionInRange region → AnswerInRange (route me region entity)
route_in me region entity r = by_receives (receives (slot_for region entity))
  where
    by_full : (full : Bool) → AnswerInRange (kept full entity None)
    by_full true = tt
    by_full false = tt

    by_other : (o : Option UniqueModel) → IfThere IsUnique o → AnswerInRange (kept (is_full region) entity o)
    by_other None is = by_full (is_full region)
    by_other (Some home) is = is

    than_in : (o : Option UniqueModel) → IfThere IsUnique o → IfThere IsUnique (other_than me o)
    than_in None is = tt
    than_in (Some home) is = by_test (is_eq (unique_cmp home me))
      where
        by_test : (b : Bool) → IfThere IsUnique (if b then None else Some home)
        by_test true = tt
        by_test false = is

    home_in : (held : Bool) → IfThere IsUnique (if held then None else other_than me (slot_for region entity).home)
    home_in true = tt
    home_in false = than_in (slot_for region entity).home (slot_in region r (entity_shard region entity)).home

    by_receives : (b : Bool) → AnswerInRange (if b then offered.Delivered entity else kept (is_full region) entity (other_home me (slot_for region entity)))
    by_receives true = tt
    by_receives false = by_other (other_home me (slot_for region entity)) (home_in (slot_for region entity).held)

delivery_in : (b : Bool) (entity : List ℕ) (payload : ℕ) → AllOf IsSentWell (delivery b entity payload)
delivery_in true entity payload = (tt, tt)
delivery_in false entity payload = (tt, (tt, tt))

routed_in : (me : UniqueModel) → IsUnique me → (message : Message) → MessageInRange message → (answer : Offered) → AnswerInRange answer → (s : ShardingModel) → InRange s → GoesWell (routed me message answer s)
routed_in me is message m (offered.Delivered entity) a s k = (record { region = k.region; table = k.table }, delivery_in (finmap.contains_key s.entities message.entity) message.entity message.payload)
routed_in me is message m (offered.Forwarded home entity) a s k = (k, (tt, (sent_to me home (wire.TheVariants.Forward message.entity message.payload) is a refl (m.entity, m.payload), tt)))
routed_in me is message m offered.Buffered a s k =
    (of_region s _ k (record { each = k.region.each; all = k.region.all; some = k.region.some; few = k.region.few; slots = k.region.slots; waiting = all_both MessageInRange s.region.messages (message ∷ []) k.region.waiting (m, tt) }), (tt, tt))
routed_in me is message m (offered.Dropped entity) a s k = (k, (tt, tt))

routes_in : (me : UniqueModel) → IsUnique me → (message : Message) → MessageInRange message → (s : ShardingModel) → InRange s → GoesWell (routes me message s)
routes_in me is message m s k = routed_in me is message m (route me s.region message.entity) (route_in me s.region message.entity k.region) s k

each_in : (me : UniqueModel) → IsUnique me → (messages : List Message) → AllOf MessageInRange messages → (s : ShardingModel) → InRange s → GoesWell (routes_each me messages s)
each_in me is [] m s k = (k, tt)
each_in me is (message ∷ messages) m s k =
    let o = routes_in me is message m.0 s k in
    let p = each_in me is messages m.1 (routes me message s).0 o.0 in
    (p.0, all_both IsSentWell (routes me message s).1 (routes_each me messages (routes me message s).0).1 o.1 p.1)

flushes_in : (me : UniqueModel) → IsUnique me → (shard : ℕ) (s : ShardingModel) → InRange s → GoesWell (flushes me shard s)
flushes_in me is shard s k = each_in me is (flushed me shard s.region) (flushed_in (can_flush me (slot_of s.region shard))) (record s { region = after_flush me shard s.region }) (of_region s _ k (record { each = k.region.each; all = k.region.all; some = k.region.some; few = k.region.few; slots = k.region.slots; waiting = rest_in (can_flush me (slot_of s.region shard)) }))
  where
    flushed_in : (b : Bool) → AllOf MessageInRange (if b then those_for s.region.division shard s.region.messages else [])
    flushed_in true = all_filter MessageInRange _ s.region.messages k.region.waiting
    flushed_in false = tt

    rest_in : (b : Bool) → AllOf MessageInRange (if b then others_than_for s.region.division shard s.region.messages else s.region.messages)
    rest_in true = all_filter MessageInRange _ s.region.messages k.region.waiting
    rest_in false = k.region.waiting

-- ---- the rules of a region
pub both_well : (a b : Bool) (s : ShardingModel) (o : Outcome) → InRange s → (a ≡ true → GoesWell o) → GoesWell (if a && b then o else nothing s)
both_well true true s o k w = w refl
both_well true false s o k w = (k, tt)
both_well false b s o k w = (k, tt)

pub is_shard : (shard : ℕ) (s : ShardingModel) → InRange s → has_shard shard s ≡ true → IsShard shard
is_shard shard s k has_it = let lt = ltb-true shard (length s.region.slots) has_it in let few = k.region.few in omega (arith, lt, few)

module _ (around : Around) (a : AroundInRange around) (s : ShardingModel) (k : InRange s) where
  pub home_in : (b : BallotModel) (shard : ℕ) (owner : UniqueModel) → IsUnique owner → GoesWell (on_home around b shard owner s)
  home_in b shard owner is =
      both_well (has_shard shard s) (is_bound around b) s _ k (λ there.
      flushes_in around.me a.me shard (learns_home around.me shard owner s) (of_region s _ k (with_in s.region shard (at_home owner (slot_of s.region shard)) k.region (record { mark = (slot_in s.region k.region shard).mark; home = is }))))

  pub host_shard_in : (from : UniqueModel) (b : BallotModel) (shard number : ℕ) → IsUnique from → IsBallot b → IsNumber number → GoesWell (on_host_shard around from b shard number s)
  host_shard_in from b shard number from_is b_is n_is = both_well (has_shard shard s) (is_bound around b) s _ k (λ there. by_answer (is_shard shard s k there) (host_answer number (slot_of s.region shard)))
    where
      by_answer : IsShard shard → (h : Hosting) → GoesWell (obeys around from b shard number h s)
      by_answer inside New =
          let o = flushes_in around.me a.me shard (hosted_by around.me shard number New s) (of_region s _ k (with_in s.region shard (after_host around.me number New (slot_of s.region shard)) k.region (record { mark = n_is.bounded; home = a.me }))) in
          (o.0, (tt, all_both IsSentWell (flushes around.me shard (hosted_by around.me shard number New s)).1 (to_process around.me from (wire.TheVariants.ShardStarted b shard number) ∷ []) o.1 (sent_to around.me from (wire.TheVariants.ShardStarted b shard number) a.me from_is refl (b_is, (inside, n_is)), tt)))
      by_answer inside Again = (of_region s _ k (with_in s.region shard (slot_of s.region shard) k.region (slot_in s.region k.region shard)), (sent_to around.me from (wire.TheVariants.ShardStarted b shard number) a.me from_is refl (b_is, (inside, n_is)), tt))
      by_answer inside Ignored = (of_region s _ k (with_in s.region shard (slot_of s.region shard) k.region (slot_in s.region k.region shard)), tt)

  pub begin_in : (from : UniqueModel) (b : BallotModel) (shard number : ℕ) → IsUnique from → IsBallot b → IsNumber number → GoesWell (on_begin_hand_off around from b shard number s)
  begin_in from b shard number from_is b_is n_is =
      both_well (has_shard shard s) (is_bound around b) s _ k (λ there. (
        of_region s _ k (with_in s.region shard (begun (slot_of s.region shard)) k.region (record { mark = (slot_in s.region k.region shard).mark; home = tt })),
        (sent_to around.me from (wire.TheVariants.BeginHandOffAck b shard number) a.me from_is refl (b_is, (is_shard shard s k there, n_is)), tt),
      ))

  abbrev marked_by : ℕ → ℕ → ShardingModel
  marked_by shard number = record s { region = with_slot s.region shard (handed_off number (slot_of s.region shard)) }

  pub hand_off_in : (from : UniqueModel) (b : BallotModel) (shard number : ℕ) → IsUnique from → IsBallot b → IsNumber number → GoesWell (on_hand_off around from b shard number s)
  hand_off_in from b shard number from_is b_is n_is = both_well (has_shard shard s) (is_bound around b) s _ k (λ there. by_end (is_shard shard s k there) (gives_up number (slot_of s.region shard)))
    where
      marked : InRange (marked_by shard number)
      marked = of_region s _ k (with_in s.region shard (handed_off number (slot_of s.region shard)) k.region (record { mark = max_in (slot_of s.region shard).mark number (slot_in s.region k.region shard).mark n_is.bounded; home = (slot_in s.region k.region shard).home }))
        where
          max_in : (x y : ℕ) → x ≤ BOUND → y ≤ BOUND → max x y ≤ BOUND
          max_in x y p q = omega (arith, p, q)

      by_end : IsShard shard → (g : Bool) → GoesWell ((ends_shard g shard (marked_by shard number)).0, (ends_shard g shard (marked_by shard number)).1 ++ to_process around.me from (wire.TheVariants.ShardStopped b shard number) ∷ [])
      by_end inside true = (record { region = marked.region; table = marked.table }, (tt, (sent_to around.me from (wire.TheVariants.ShardStopped b shard number) a.me from_is refl (b_is, (inside, n_is)), tt)))
      by_end inside false = (marked, (sent_to around.me from (wire.TheVariants.ShardStopped b shard number) a.me from_is refl (b_is, (inside, n_is)), tt))

  pub offer_in : (entity : List ℕ) (payload : ℕ) → IsEntity entity → payload < 2 ^ 64 → GoesWell (on_offer around entity payload s)
  offer_in entity payload e_is p_is = routes_in around.me a.me (record { entity = entity; payload = payload }) (record { entity = e_is; payload = p_is }) s k

  pub forgets_in : GoesWell (forgets around s)
  forgets_in = (of_region s _ k (record { each = k.region.each; all = map_many (without_stranger around.members) s.region.slots ∙ k.region.all; some = subst (λ n. 1 ≤ n) (sym (map_many (without_stranger around.members) s.region.slots)) k.region.some; few = subst (λ n. n ≤ 1000) (sym (map_many (without_stranger around.members) s.region.slots)) k.region.few; slots = all_map SlotInRange SlotInRange (without_stranger around.members) each s.region.slots k.region.slots; waiting = k.region.waiting }), tt)
    where
      each : (slot : ShardSlot) → SlotInRange slot → SlotInRange (without_stranger around.members slot)
      each slot is = record { mark = is.mark; home = by_home slot.home is.home }
        where
          by_home : (o : Option UniqueModel) → IfThere IsUnique o → IfThere IsUnique (member_home around.members o)
          by_home None h = tt
          by_home (Some home) h = by_test (Rattle.ak_member.specs.Standing.is_member around.members home)
            where
              by_test : (b : Bool) → IfThere IsUnique (if b then Some home else None)
              by_test true = h
              by_test false = tt
