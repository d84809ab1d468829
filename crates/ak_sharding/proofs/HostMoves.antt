-- What a node does as a region, as moves.
use Rattle.std.proofs.Common.{◌≡◌, inl, inr, ℕ, ◌<◌, Bool, true, false, List, [], ◌∷◌, ◌++◌, length, length-set, map, Contains, Option, None, Some, refl, sym, ◌∙◌, subst, arith}
use Rattle.std.proofs.lemmas.Bool.{ltb-true}
use Rattle.std.proofs.lemmas.List.{length-map}
use Rattle.std.proofs.lemmas.Option.{same_Some}
use Rattle.std.specs.FinMap as finmap
use Rattle.ak_address.specs.Unique.{UniqueModel}
use Rattle.ak_address.proofs.Elements.{contains_first, contains_rest, contains_nothing, contains_either, first_or_rest}
use Rattle.ak_clock.specs.Version.{Counts}
use Rattle.ak_line.specs.BallotOrder.{IsLater}
use Rattle.ak_line.specs.Moves as moves
use Rattle.ak_line.specs.Moves.{Node, Said}
use Rattle.ak_line.proofs.BecomesLemmas.{stays, then, says_less}
use Rattle.ak_promise.specs.Ballot.{BallotModel}
use Rattle.ak_promise.proofs.PromiseLemmas.{last_is}
use Rattle.ak_region.specs.declared.region.Offered.{Offered}
use Rattle.ak_region.specs.declared.region.Offered.TheVariants as offered
use Rattle.ak_region.specs.declared.slot.Hosting.{Hosting}
use Rattle.ak_region.specs.declared.slot.Hosting.TheVariants.{New, Again, Ignored}
use Rattle.ak_region.specs.RegionModel.{RegionModel, Message}
use Rattle.ak_region.specs.Shards.{ShardSlot, IsSlot}
use Rattle.ak_region.specs.Slot.{at_home, host_answer, after_host, begun, gives_up, handed_off, without_stranger}
use Rattle.ak_region.specs.Region.{slot_of, with_slot, route, flushed, after_flush, wanted}
use Rattle.ak_region.specs.Marks.{shown, marks_of}
use Rattle.ak_region.proofs.MarkLemmas.{marks_same, slots_put, newly_hosts, handed_slot, forget_marks, forget_slots}
use Rattle.ak_region.proofs.AsMoves.{names, SaysInHosting, host_is_moves, hand_off_is_moves}
use Rattle.ak_singleton.proofs.AsMoves.{line}
use Rattle.ak_wire.specs.declared.action.Action.{Action}
use Rattle.ak_wire.specs.declared.envelope.Message as wire
use Rattle.ak_sharding.specs.Sharding.{ShardingModel, Around, Outcome, and_does, to_process, delivery, routed, routes, routes_each, flushes}
use Rattle.ak_sharding.specs.Hosts.{has_shard, is_bound, if_bound, learns_home, on_home, hosted_by, obeys, on_host_shard, holds, on_begin_hand_off, ends_shard, hands_off, on_hand_off, asks_homes_of, asks_homes, forgets}
use Rattle.ak_sharding.specs.Said.{says_of}
use Rattle.ak_sharding.proofs.PartLemmas.{said_either, IsLikeHere, Turns, IsPart, Does, part_slots, part_marks, nothing_does, then_does, if_both}

module _ (on : Counts → Type 0) (aged removed : Counts → UniqueModel → Type 0) (heard : UniqueModel → Said Counts → Type 0) (stopped : UniqueModel → Type 0) (around : Around) where
  abbrev Part : ShardingModel → Node Counts → Type 0
  Part s n = IsPart on aged removed heard stopped around s n

  abbrev Done : Node Counts → Outcome → Type 0
  Done n o = Does on aged removed heard stopped around n o

  -- a part that says nothing, and leaves slots and table
  quiet : (s t : ShardingModel) (n : Node Counts) (actions : List Action) → t.region.slots ≡ s.region.slots → t.table ≡ s.table → says_of actions ≡ [] → Part s n → Done n (t, actions)
  quiet s t n actions slots table silent p = record {
    after = n;
    becomes = subst (λ xs. Turns on aged removed heard stopped around n n xs) (sym silent) (stays (line on aged removed) IsLater heard stopped around.me n);
    part = part_slots on aged removed heard stopped around s t n slots table p;
  }

  -- ---- messages to entities
  delivery_silent : (b : Bool) (entity : List ℕ) (payload : ℕ) → says_of (delivery b entity payload) ≡ []
  delivery_silent true entity payload = refl
  delivery_silent false entity payload = refl

  routed_does : (message : Message) (answer : Offered) (s : ShardingModel) (n : Node Counts) → Part s n → Done n (routed around.me message answer s)
  routed_does message (offered.Delivered entity) s n p = quiet s _ n (delivery (finmap.contains_key s.entities message.entity) message.entity message.payload) refl refl (delivery_silent _ message.entity message.payload) p
  routed_does message (offered.Forwarded home entity) s n p = quiet s s n _ refl refl refl p
  routed_does message offered.Buffered s n p = quiet s _ n _ refl refl refl p
  routed_does message (offered.Dropped entity) s n p = quiet s s n _ refl refl refl p

  pub routes_does : (message : Message) (s : ShardingModel) (n : Node Counts) → Part s n → Done n (routes around.me message s)
  routes_does message s n p = routed_does message (route around.me s.region message.entity) s n p

  each_does : (messages : List Message) (s : ShardingModel) (n : Node Counts) → Part s n → Done n (routes_each around.me messages s)
  each_does [] s n p = nothing_does on aged removed heard stopped around s n p
  each_does (message ∷ messages) s n p =
      then_does on aged removed heard stopped around (routes_each around.me messages) n (routes around.me message s) (routes_does message s n p) (λ m q. each_does messages (routes around.me message s).0 m q)

  pub flushes_does : (shard : ℕ) (s : ShardingModel) (n : Node Counts) → Part s n → Done n (flushes around.me shard s)
  flushes_does shard s n p =
      each_does (flushed around.me shard s.region) (record s { region = after_flush around.me shard s.region }) n (part_slots on aged removed heard stopped around s (record s { region = after_flush around.me shard s.region }) n refl refl p)

  -- ---- the last ballot
  bound_last : (b : BallotModel) (n : Node Counts) → IsLikeHere on aged removed heard stopped around n → is_bound around b ≡ true → n.last ≡ Some b
  bound_last b n k is = k.last ∙ last_is around.singleton.promise.last b is

  if_bound_does : (b : BallotModel) (shard : ℕ) (rule : ShardingModel → Outcome) (s : ShardingModel) (n : Node Counts) → Part s n → (shard < length s.region.slots → n.last ≡ Some b → Done n (rule s)) → Done n (if_bound around b shard rule s)
  if_bound_does b shard rule s n p does =
      if_both on aged removed heard stopped around (has_shard shard s) (is_bound around b) n (rule s) s p (λ inside bound. does (ltb-true shard (length s.region.slots) inside) (bound_last b n p.like bound))

  -- a slot is replaced, with the same mark
  slot_same : (s : ShardingModel) (n : Node Counts) (shard : ℕ) (slot : ShardSlot) → shard < length s.region.slots → shown slot ≡ shown (slot_of s.region shard) → IsSlot slot → Part s n → Part (record s { region = with_slot s.region shard slot }) n
  slot_same s n shard slot inside same is p = record {
    like = p.like;
    sharing = record {
      marks = p.sharing.marks ∙ sym (marks_same s.region shard slot inside same);
      slots = slots_put s.region shard slot inside is p.sharing.slots;
      table = λ x at. let h = p.sharing.table x at in (h.0, h.1 ∙ sym (length-set s.region.slots shard slot));
    };
  }

  -- ---- a home is told
  pub on_home_does : (b : BallotModel) (shard : ℕ) (owner : UniqueModel) (s : ShardingModel) (n : Node Counts) → Part s n → Done n (on_home around b shard owner s)
  on_home_does b shard owner s n p =
      if_bound_does b shard (λ s. flushes around.me shard (learns_home around.me shard owner s)) s n p (λ inside last.
      let old = p.sharing.slots shard in
      flushes_does shard (learns_home around.me shard owner s) n (slot_same s n shard (at_home owner (slot_of s.region shard)) inside refl (record { newest = old.newest; positive = old.positive }) p))

  -- ---- the order to host
  hosted_slot : (number : ℕ) (answer : Hosting) (slot : ShardSlot) → (answer ≡ New → slot.mark < number) → IsSlot slot → IsSlot (after_host around.me number answer slot)
  hosted_slot number New slot newer is = record { newest = λ m at. sym (same_Some number m at); positive = λ m at. subst (λ k. 0 < k) (same_Some number m at) (let less = newer refl in omega (arith, less)) }
  hosted_slot number Again slot newer is = is
  hosted_slot number Ignored slot newer is = is

  obeys_does : (from : UniqueModel) (b : BallotModel) (shard number : ℕ) (s : ShardingModel) (n : Node Counts) → Part s n → shard < length s.region.slots → n.last ≡ Some b → heard from (moves.HostShard b around.me shard number)
      → Done n (obeys around from b shard number (host_answer number (slot_of s.region shard)) s)
  obeys_does from b shard number s n p inside last was_heard =
      by_answer (host_answer number (slot_of s.region shard)) refl (host_is_moves (line on aged removed) IsLater heard stopped around.me n p.like.runs s.region p.sharing.marks shard inside number b from was_heard last)
    where
      abbrev_region : Hosting → RegionModel
      abbrev_region h = with_slot s.region shard (after_host around.me number h (slot_of s.region shard))

      moved : (h : Hosting) → host_answer number (slot_of s.region shard) ≡ h → Part (record s { region = with_slot s.region shard (after_host around.me number h (slot_of s.region shard)) }) (record n { marks = marks_of (with_slot s.region shard (after_host around.me number h (slot_of s.region shard))) })
      moved h is = part_marks on aged removed heard stopped around s n (with_slot s.region shard (after_host around.me number h (slot_of s.region shard)))
          (slots_put s.region shard (after_host around.me number h (slot_of s.region shard)) inside (hosted_slot number h (slot_of s.region shard) (λ new. (newly_hosts number (slot_of s.region shard) (is ∙ new)).1) (p.sharing.slots shard)) p.sharing.slots)
          (length-set s.region.slots shard (after_host around.me number h (slot_of s.region shard))) p

      by_answer : (h : Hosting) → host_answer number (slot_of s.region shard) ≡ h
          → (says : List (Said Counts)) × SaysInHosting (line on aged removed) IsLater heard stopped around.me n p.like.runs s.region p.sharing.marks shard inside h b says
          × Turns on aged removed heard stopped around n (record n { marks = marks_of (with_slot s.region shard (after_host around.me number h (slot_of s.region shard))) }) says
          → Done n (obeys around from b shard number h s)
      by_answer New is m =
          let t : Node Counts = record n { marks = marks_of (with_slot s.region shard (after_host around.me number New (slot_of s.region shard))) } in
          let f = flushes_does shard (hosted_by around.me shard number New s) t (moved New is) in
          record {
            after = f.after;
            becomes = says_less (line on aged removed) IsLater heard stopped around.me n f.after (moves.Names b ∷ says_of (flushes around.me shard (hosted_by around.me shard number New s)).1) _ (said_last (flushes around.me shard (hosted_by around.me shard number New s)).1)
                (then (line on aged removed) IsLater heard stopped around.me n t f.after (moves.Names b ∷ []) (says_of (flushes around.me shard (hosted_by around.me shard number New s)).1) (subst (λ xs. Turns on aged removed heard stopped around n t xs) m.1 m.2) f.becomes);
            part = f.part;
          }
        where
          said_last : (actions : List Action) (x : Said Counts) → Contains (says_of (actions ++ to_process around.me from (wire.TheVariants.ShardStarted b shard number) ∷ [])) x → Contains (moves.Names b ∷ says_of actions) x
          said_last actions x there = elim (contains_either (says_of actions) (moves.Names b ∷ []) x (said_either actions (to_process around.me from (wire.TheVariants.ShardStarted b shard number) ∷ []) x there)) [
            | inl before ↦ contains_rest (moves.Names b) x (says_of actions) before
            | inr last ↦ elim (first_or_rest (moves.Names b) x [] last) [
              | inl same ↦ subst (λ y. Contains (moves.Names b ∷ says_of actions) y) (sym same) (contains_first (moves.Names b) (says_of actions))
              | inr none ↦ absurd (contains_nothing x none)
            ]
          ]
      by_answer Again is m = record { after = _; becomes = subst (λ xs. Turns on aged removed heard stopped around n (record n { marks = marks_of (with_slot s.region shard (after_host around.me number Again (slot_of s.region shard))) }) xs) m.1 m.2; part = moved Again is }
      by_answer Ignored is m = record { after = _; becomes = subst (λ xs. Turns on aged removed heard stopped around n (record n { marks = marks_of (with_slot s.region shard (after_host around.me number Ignored (slot_of s.region shard))) }) xs) m.1 m.2; part = moved Ignored is }

  pub on_host_shard_does : (from : UniqueModel) (b : BallotModel) (shard number : ℕ) (s : ShardingModel) (n : Node Counts) → Part s n → heard from (moves.HostShard b around.me shard number) → Done n (on_host_shard around from b shard number s)
  on_host_shard_does from b shard number s n p was_heard =
      if_bound_does b shard (λ s. obeys around from b shard number (host_answer number (slot_of s.region shard)) s) s n p (λ inside last. obeys_does from b shard number s n p inside last was_heard)

  -- ---- hand-offs
  pub on_begin_hand_off_does : (from : UniqueModel) (b : BallotModel) (shard number : ℕ) (s : ShardingModel) (n : Node Counts) → Part s n → Done n (on_begin_hand_off around from b shard number s)
  on_begin_hand_off_does from b shard number s n p =
      if_bound_does b shard (holds around from b shard number) s n p (λ inside last. record {
        after = n;
        becomes = names (line on aged removed) IsLater heard stopped around.me n b p.like.runs (inl last);
        part = slot_same s n shard (begun (slot_of s.region shard)) inside refl (let old = p.sharing.slots shard in record { newest = old.newest; positive = old.positive }) p;
      })

  pub on_hand_off_does : (from : UniqueModel) (b : BallotModel) (shard number : ℕ) (s : ShardingModel) (n : Node Counts) → Part s n → heard from (moves.HandOff b around.me shard number) → Done n (on_hand_off around from b shard number s)
  on_hand_off_does from b shard number s n p was_heard =
      if_bound_does b shard (hands_off around from b shard number) s n p (λ inside last. by_given inside last (gives_up number (slot_of s.region shard)))
    where
      by_given : shard < length s.region.slots → n.last ≡ Some b → (g : Bool)
          → Done n (and_does (to_process around.me from (wire.TheVariants.ShardStopped b shard number) ∷ []) (ends_shard g shard (record s { region = with_slot s.region shard (handed_off number (slot_of s.region shard)) })))
      by_given inside last g = by_g g
        where
          moved : Part (record s { region = with_slot s.region shard (handed_off number (slot_of s.region shard)) }) (record n { marks = marks_of (with_slot s.region shard (handed_off number (slot_of s.region shard))) })
          moved = part_marks on aged removed heard stopped around s n (with_slot s.region shard (handed_off number (slot_of s.region shard)))
              (slots_put s.region shard (handed_off number (slot_of s.region shard)) inside (handed_slot number (slot_of s.region shard) (p.sharing.slots shard)) p.sharing.slots)
              (length-set s.region.slots shard (handed_off number (slot_of s.region shard))) p

          by_g : (g : Bool) → Done n (and_does (to_process around.me from (wire.TheVariants.ShardStopped b shard number) ∷ []) (ends_shard g shard (record s { region = with_slot s.region shard (handed_off number (slot_of s.region shard)) })))
          by_g true = record { after = _; becomes = hand_off_is_moves (line on aged removed) IsLater heard stopped around.me n p.like.runs s.region p.sharing.marks shard inside (p.sharing.slots shard) number b from was_heard last; part = part_slots on aged removed heard stopped around _ _ _ refl refl moved }
          by_g false = record { after = _; becomes = hand_off_is_moves (line on aged removed) IsLater heard stopped around.me n p.like.runs s.region p.sharing.marks shard inside (p.sharing.slots shard) number b from was_heard last; part = moved }

  -- ---- a tick asks for homes
  asked : (b : BallotModel) (shards : List ℕ) (x : Said Counts) → Contains (says_of (map (λ shard. to_process around.me b.unique (wire.TheVariants.GetHome b shard)) shards)) x → x ≡ moves.Names b
  asked b [] x there = absurd (contains_nothing x there)
  asked b (shard ∷ shards) x there = elim (first_or_rest (moves.Names b) x (says_of (map (λ shard. to_process around.me b.unique (wire.TheVariants.GetHome b shard)) shards)) there) [
    | inl same ↦ same
    | inr later ↦ asked b shards x later
  ]

  pub asks_homes_does : (s : ShardingModel) (n : Node Counts) → Part s n → Done n (asks_homes around s)
  asks_homes_does s n p = by_last around.singleton.promise.last refl
    where
      by_last : (o : Option BallotModel) → around.singleton.promise.last ≡ o → Done n (s, asks_homes_of o around s)
      by_last None none = nothing_does on aged removed heard stopped around s n p
      by_last (Some b) at = record {
        after = n;
        becomes = says_less (line on aged removed) IsLater heard stopped around.me n n (moves.Names b ∷ []) _ (λ x there. subst (λ y. Contains (moves.Names b ∷ []) y) (sym (asked b (wanted s.region) x there)) (contains_first (moves.Names b) []))
            (names (line on aged removed) IsLater heard stopped around.me n b p.like.runs (inl (p.like.last ∙ at)));
        part = p;
      }

  -- ---- the closing forgets homes
  pub forgets_kept : (s : ShardingModel) (n : Node Counts) → Part s n → Part (forgets around s).0 n
  forgets_kept s n p = record {
    like = p.like;
    sharing = record {
      marks = p.sharing.marks ∙ sym (forget_marks around.members s.region);
      slots = forget_slots around.members s.region p.sharing.slots;
      table = λ x at. let h = p.sharing.table x at in (h.0, h.1 ∙ sym (length-map s.region.slots (without_stranger around.members)));
    };
  }

  pub forgets_does : (s : ShardingModel) (n : Node Counts) → Part s n → Done n (forgets around s)
  forgets_does s n p = record { after = n; becomes = stays (line on aged removed) IsLater heard stopped around.me n; part = forgets_kept s n p }
