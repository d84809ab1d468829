-- What is true of a world after generated events and no others, kept by each of them; and so each may happen.
use Rattle.std.proofs.Common.{◌≡◌, ◌≢◌, ℕ, zero, suc, ◌+◌, ◌-◌, ◌<◌, ◌≤◌, ◌%◌, ◌^◌, Bool, true, false, cond, not, eqb, nat_lt, nat_le, ◌==◌, ◌&&◌, min, List, [], ◌∷◌, length, slice_get, Contains, Option, None, Some, option_map, option_and_then, is_some, inl, inr, refl, sym, ap, ◌∙◌, subst, arith, true≢false}
use Rattle.std.proofs.Math.Nat.{mod-lt}
use Rattle.std.proofs.lemmas.Bool.{ltb-true, lt-ltb, eqb-true, eqb-false}
use Rattle.std.proofs.lemmas.Option.{same_Some}
use Rattle.ak_address.specs.Unique.{UniqueModel, IsUnique}
use Rattle.ak_address.specs.Uniques.{how_many}
use Rattle.ak_address.proofs.Elements.{contains_first, contains_rest, first_or_rest, contains_nothing}
use Rattle.ak_address.proofs.UniquesLaws.{has-no_one}
use Rattle.ak_schedule.specs.declared.event.Event.{Event}
use Rattle.ak_schedule.specs.declared.event.Event.TheVariants.{Start, Found, Join, Tick, Deliver, Leave, Down, Offer, Stop}
use Rattle.ak_schedule.specs.Schedule.{IsEvent}
use Rattle.ak_generate.specs.Fixed.{address, addresses, process}
use Rattle.ak_generate.specs.Words.{Words, after_one}
use Rattle.ak_generate.specs.Generated as generated
use Rattle.ak_generate.specs.Generated.{opening, chosen, choice_of, idles, delivers, stops, newcomer, is_in_use, happens, anew, later, next_event}
use Rattle.ak_generate.specs.declared.choice.Choice.{Choice}
use Rattle.ak_generate.specs.declared.choice.Choice as choice
use Rattle.ak_generate.specs.Census.{Census, sight_of, Runs, MayHappen, started_by, founded_by, Starts, IsGiven, Follows, nothing_yet, IsGenerated}
use Rattle.ak_generate.specs.Census.IsGenerated.{begun, goes_on}
use Rattle.ak_generate.proofs.GenerateLemmas.{next_of, address_is_one}
use Rattle.ak_generate.proofs.CensusLemmas.{chosen_runs, nobody_there, nobody_runs, is_listed, apart, process_is_one, entity_is_fixed, entity_is_one}

-- ---- what is true of the processes that were started
pub record AreKnown (started : List UniqueModel) : Type 0 where
  pub range : (who : UniqueModel) → Contains started who → IsUnique who
  pub uids : (who : UniqueModel) → Contains started who → who.uid ≤ length started
  pub listed : (who : UniqueModel) → Contains started who → Contains addresses who.address

-- one more may start
pub record IsNewcomer (started : List UniqueModel) (who : UniqueModel) : Type 0 where
  pub range : IsUnique who
  pub uid : who.uid ≤ suc (length started)
  pub listed : Contains addresses who.address

abbrev pub Admits : List UniqueModel → Event → Type 0
Admits started (Start who) = IsNewcomer started who
Admits started (Found who) = Unit {0}
Admits started (Join who target) = Unit {0}
Admits started (Tick who word) = Unit {0}
Admits started (Deliver number) = Unit {0}
Admits started (Leave who member) = Unit {0}
Admits started (Down who member) = Unit {0}
Admits started (Offer who entity payload) = Unit {0}
Admits started (Stop who) = Unit {0}

one_more : (started : List UniqueModel) (who : UniqueModel) → IsNewcomer started who → AreKnown started → AreKnown (who ∷ started)
one_more started who new known = record {
  range = λ one there. elim (first_or_rest who one started there) [
    | inl same ↦ subst IsUnique (sym same) new.range
    | inr rest ↦ known.range one rest
  ];
  uids = λ one there. elim (first_or_rest who one started there) [
    | inl same ↦ subst (λ (u : UniqueModel). u.uid ≤ suc (length started)) (sym same) new.uid
    | inr rest ↦ let le = known.uids one rest in omega arith
  ];
  listed = λ one there. elim (first_or_rest who one started there) [
    | inl same ↦ subst (λ (u : UniqueModel). Contains addresses u.address) (sym same) new.listed
    | inr rest ↦ known.listed one rest
  ];
}

known_by : (event : Event) (started : List UniqueModel) → Admits started event → AreKnown started → AreKnown (started_by event started)
known_by (Start who) started new known = one_more started who new known
known_by (Found who) started new known = known
known_by (Join who target) started new known = known
known_by (Tick who word) started new known = known
known_by (Deliver number) started new known = known
known_by (Leave who member) started new known = known
known_by (Down who member) started new known = known
known_by (Offer who entity payload) started new known = known
known_by (Stop who) started new known = known

still_started : (event : Event) (started : List UniqueModel) (one : UniqueModel) → Contains started one → Contains (started_by event started) one
still_started (Start who) started one there = contains_rest who one started there
still_started (Found who) started one there = there
still_started (Join who target) started one there = there
still_started (Tick who word) started one there = there
still_started (Deliver number) started one there = there
still_started (Leave who member) started one there = there
still_started (Down who member) started one there = there
still_started (Offer who entity payload) started one there = there
still_started (Stop who) started one there = there

starter_started : (event : Event) (started : List UniqueModel) (one : UniqueModel) → Starts event one → Contains (started_by event started) one
starter_started (Start who) started one same = subst (Contains (who ∷ started)) (sym same) (contains_first who started)
starter_started (Found who) started one never = absurd never
starter_started (Join who target) started one never = absurd never
starter_started (Tick who word) started one never = absurd never
starter_started (Deliver number) started one never = absurd never
starter_started (Leave who member) started one never = absurd never
starter_started (Down who member) started one never = absurd never
starter_started (Offer who entity payload) started one never = absurd never
starter_started (Stop who) started one never = absurd never

-- ---- the first ten events
-- the processes that were started after so many events, up to five
abbrev pub first_started : ℕ → List UniqueModel
first_started zero = []
first_started (suc n) = process (n + 1) 1 ∷ first_started n

length-first : (n : ℕ) → length (first_started n) ≡ n
length-first zero = refl
length-first (suc n) = ap suc (length-first n)

first_are : (n : ℕ) (who : UniqueModel) → Contains (first_started n) who → (k : ℕ) × (k < n) × (who ≡ process (k + 1) 1)
first_are zero who there = absurd (contains_nothing who there)
first_are (suc n) who there = elim (first_or_rest (process (n + 1) 1) who (first_started n) there) [
  | inl same ↦ (n, omega arith, same)
  | inr rest ↦ let f = first_are n who rest in (f.0, let lt = f.1 in omega arith, f.2)
]

pub data IsOpening (given : ℕ) (event : Event) : Type 0 where
  starts : given < 5 → event ≡ Start (process (given + 1) 1) → IsOpening given event
  founds : given ≡ 5 → event ≡ Found (process 1 1) → IsOpening given event
  joins : (k : ℕ) → given ≡ k + 5 → 1 ≤ k → k < 5 → event ≡ Join (process (k + 1) 1) (address 1) → IsOpening given event

opening_at : (given : ℕ) (event : Event) → given < 10 → slice_get opening given ≡ Some event → IsOpening given event
opening_at zero event lt is = starts (omega arith) (sym (same_Some _ _ is))
opening_at (suc zero) event lt is = starts (omega arith) (sym (same_Some _ _ is))
opening_at (suc (suc zero)) event lt is = starts (omega arith) (sym (same_Some _ _ is))
opening_at (suc (suc (suc zero))) event lt is = starts (omega arith) (sym (same_Some _ _ is))
opening_at (suc (suc (suc (suc zero)))) event lt is = starts (omega arith) (sym (same_Some _ _ is))
opening_at (suc (suc (suc (suc (suc zero))))) event lt is = founds refl (sym (same_Some _ _ is))
opening_at (suc (suc (suc (suc (suc (suc zero)))))) event lt is = joins 1 refl (omega arith) (omega arith) (sym (same_Some _ _ is))
opening_at (suc (suc (suc (suc (suc (suc (suc zero))))))) event lt is = joins 2 refl (omega arith) (omega arith) (sym (same_Some _ _ is))
opening_at (suc (suc (suc (suc (suc (suc (suc (suc zero)))))))) event lt is = joins 3 refl (omega arith) (omega arith) (sym (same_Some _ _ is))
opening_at (suc (suc (suc (suc (suc (suc (suc (suc (suc zero))))))))) event lt is = joins 4 refl (omega arith) (omega arith) (sym (same_Some _ _ is))
opening_at (suc (suc (suc (suc (suc (suc (suc (suc (suc (suc given)))))))))) event lt is = absurd (omega arith)

-- ---- what is true of a world
pub record Holds (given : ℕ) (c : Census) : Type 0 where
  pub known : AreKnown c.started
  pub started : (who : UniqueModel) → Runs c who → Contains c.started who
  pub opened : given ≤ 5 → c.started ≡ first_started given
  pub unfounded : given ≤ 5 → c.founded ≡ false
  -- of the first five, those that were not given an event yet run
  pub waiting : (k : ℕ) → k < 5 → k < given → given ≤ k + 5 → Runs c (process (k + 1) 1)

pub holds_first : Holds 0 nothing_yet
holds_first = record {
  known = record {
    range = λ who there. absurd (contains_nothing who there);
    uids = λ who there. absurd (contains_nothing who there);
    listed = λ who there. absurd (contains_nothing who there);
  };
  started = λ who runs. absurd (true≢false (sym runs ∙ has-no_one who));
  opened = λ le. refl;
  unfounded = λ le. refl;
  waiting = λ k few lt le. absurd (omega arith);
}

-- an event may happen; where few packets were sent and the words are words of 32 bits its parts are in their ranges
pub record IsAllowed (c : Census) (Small : Type 0) (event : Event) : Type 0 where
  pub may : MayHappen c event
  pub admitted : Admits c.started event
  pub range : Small → IsEvent event

not_before : (given k : ℕ) (c : Census) → given < 5 → Holds given c → (one : UniqueModel) → Contains c.started one → one.address ≢ address (given + 1)
not_before given k c lt h one there same =
    let f = first_are given one (subst (λ l. Contains l one) (h.opened (omega arith)) there) in
    let less = f.1 in
    let equal = apart f.0 given (omega arith) (omega arith) (sym (ap (λ (u : UniqueModel). u.address) f.2) ∙ same) in omega arith

start_allowed : (given : ℕ) (c : Census) (Small : Type 0) → given < 5 → Holds given c → IsAllowed c Small (Start (process (given + 1) 1))
start_allowed given c Small lt h =
    let few = ap length (h.opened (omega arith)) ∙ length-first given in
    record {
      may = record {
        listed = is_listed given lt;
        unused = λ there. not_before given 0 c lt h (process (given + 1) 1) there refl;
        alone = λ other runs. not_before given 0 c lt h other (h.started other runs);
        few = omega arith;
      };
      admitted = record {
        range = process_is_one given 1 lt (omega arith) (omega arith);
        uid = omega arith;
        listed = is_listed given lt;
      };
      range = λ small. process_is_one given 1 lt (omega arith) (omega arith);
    }

opening_allowed : (given : ℕ) (c : Census) (Small : Type 0) (event : Event) → Holds given c → IsOpening given event → IsAllowed c Small event
opening_allowed given c Small event h (starts lt is) = subst (IsAllowed c Small) (sym is) (start_allowed given c Small lt h)
opening_allowed given c Small event h (founds at is) = subst (IsAllowed c Small) (sym is) (record {
  may = (h.unfounded (omega arith), h.waiting 0 (omega arith) (omega arith) (omega arith));
  admitted = tt;
  range = λ small. process_is_one 0 1 (omega arith) (omega arith) (omega arith);
})
opening_allowed given c Small event h (joins k at from to is) = subst (IsAllowed c Small) (sym is) (record {
  may = (is_listed 0 (omega arith), h.waiting k to (omega arith) (omega arith));
  admitted = tt;
  range = λ small. (process_is_one k 1 to (omega arith) (omega arith), address_is_one 1 (omega arith));
})

-- ---- the events after them
module _ (c : Census) (Small : Type 0) (few_packets : Small → c.packets < 2 ^ 63) (h : AreKnown c.started) (in_started : (who : UniqueModel) → Runs c who → Contains c.started who) where
  newcomer_is : (word : ℕ) → length c.started < 64 → IsNewcomer c.started (newcomer (sight_of c) word)
  newcomer_is word few =
      let rest = mod-lt word {m = 5} (omega arith) in
      record {
        range = process_is_one (word % 5) (length c.started + 1) rest (omega arith) (omega arith);
        uid = omega arith;
        listed = is_listed (word % 5) rest;
      }

  newcomer_allowed : (word : ℕ) → length c.started < 64 → ((other : UniqueModel) → Runs c other → other.address ≢ (newcomer (sight_of c) word).address) → IsAllowed c Small (Start (newcomer (sight_of c) word))
  newcomer_allowed word few alone = record {
    may = record {
      listed = (newcomer_is word few).listed;
      unused = λ there. let le = h.uids (newcomer (sight_of c) word) there in omega arith;
      alone = alone;
      few = few;
    };
    admitted = newcomer_is word few;
    range = λ small. (newcomer_is word few).range;
  }

  is_one : (who : UniqueModel) → Runs c who → IsUnique who
  is_one who runs = h.range who (in_started who runs)

  nothing : (event : Event) → None ≡ Some event → ⊥
  nothing event is = true≢false (sym (ap is_some is))

  only : (P : Event → Type 0) (one event : Event) → Some one ≡ Some event → P one → P event
  only P one event is p = subst P (same_Some _ _ is) p

  -- where nobody runs
  anew_allowed : (word : ℕ) (event : Event) → how_many c.running ≡ 0 → anew (sight_of c) word ≡ Some event → IsAllowed c Small event
  anew_allowed word event nobody is = by_room (nat_lt (length c.started) 64) refl is
    where
      by_room : (b : Bool) → nat_lt (length c.started) 64 ≡ b → cond b (Some (Start (newcomer (sight_of c) word))) None ≡ Some event → IsAllowed c Small event
      by_room true room is = only (IsAllowed c Small) _ event is (newcomer_allowed word (ltb-true _ _ room) (λ other runs. absurd (nobody_runs c.running nobody other runs)))
      by_room false full is = absurd (nothing event is)

  idle_allowed : (who : UniqueModel) → Runs c who → IsAllowed c Small (idles who)
  idle_allowed who runs = record { may = runs; admitted = tt; range = λ small. (is_one who runs, omega arith) }

  delivery_allowed : (word : ℕ) (who : UniqueModel) → Runs c who → IsAllowed c Small (delivers (sight_of c) word who)
  delivery_allowed word who runs = by_packets (c.packets == 0) refl
    where
      by_packets : (b : Bool) → (c.packets == 0) ≡ b → IsAllowed c Small (cond b (idles who) (Deliver (c.packets - word % min 40 c.packets)))
      by_packets true none = idle_allowed who runs
      by_packets false some =
          let never : c.packets ≢ 0 = eqb-false c.packets 0 some in
          let more : 0 < c.packets = omega arith in
          let rest = mod-lt word {m = min 40 c.packets} (omega arith) in
          record { may = (omega arith, omega arith); admitted = tt; range = λ small. let few = few_packets small in omega arith }

  stop_allowed : (who : UniqueModel) → Runs c who → IsAllowed c Small (stops (sight_of c) who)
  stop_allowed who runs = by_number (nat_le 3 (how_many c.running))
    where
      by_number : (b : Bool) → IsAllowed c Small (cond b (Stop who) (idles who))
      by_number true = record { may = runs; admitted = tt; range = λ small. is_one who runs }
      by_number false = idle_allowed who runs

  start_later_allowed : (word : ℕ) (who : UniqueModel) → Runs c who → IsAllowed c Small (generated.starts (sight_of c) word who)
  start_later_allowed word who runs = by_room (nat_lt (length c.started) 64) refl (is_in_use (newcomer (sight_of c) word).address c.running) refl
    where
      by_room : (b : Bool) → nat_lt (length c.started) 64 ≡ b → (u : Bool) → is_in_use (newcomer (sight_of c) word).address c.running ≡ u → IsAllowed c Small (cond (b && not u) (Start (newcomer (sight_of c) word)) (idles who))
      by_room true room true used = idle_allowed who runs
      by_room true room false free = newcomer_allowed word (ltb-true _ _ room) (nobody_there _ c.running free)
      by_room false full u used = idle_allowed who runs

  -- about another running process
  about : (f : UniqueModel → Event) → ((other : UniqueModel) → Runs c other → IsAllowed c Small (f other)) → (word : ℕ) (event : Event) → option_map f (chosen word c.running) ≡ Some event → IsAllowed c Small event
  about f each word event is = by_other (chosen word c.running) refl is
    where
      by_other : (o : Option UniqueModel) → chosen word c.running ≡ o → option_map f o ≡ Some event → IsAllowed c Small event
      by_other None none is = absurd (nothing event is)
      by_other (Some other) some is = only (IsAllowed c Small) _ event is (each other (chosen_runs word c.running other some))

  happens_allowed : (choice : Choice) (w : Words) (who : UniqueModel) (event : Event) → (Small → (n : ℕ) → w n < 2 ^ 32) → Runs c who → happens choice (sight_of c) w who ≡ Some event → IsAllowed c Small event
  happens_allowed choice.TheVariants.Tick w who event short runs is = only (IsAllowed c Small) _ event is (record { may = runs; admitted = tt; range = λ small. (is_one who runs, short small 0) })
  happens_allowed choice.TheVariants.Deliver w who event short runs is = only (IsAllowed c Small) _ event is (delivery_allowed (w 0) who runs)
  happens_allowed choice.TheVariants.Offer w who event short runs is =
      only (IsAllowed c Small) _ event is (record { may = (runs, entity_is_fixed (w 0 % 20) (mod-lt (w 0) {m = 20} (omega arith))); admitted = tt; range = λ small. (is_one who runs, entity_is_one (w 0 % 20) (mod-lt (w 0) {m = 20} (omega arith)), let lt = short small 1 in omega arith) })
  happens_allowed choice.TheVariants.Leave w who event short runs is = about (λ member. Leave who member) (λ other there. record { may = runs; admitted = tt; range = λ small. (is_one who runs, is_one other there) }) (w 0) event is
  happens_allowed choice.TheVariants.Down w who event short runs is = about (λ member. Down who member) (λ other there. record { may = runs; admitted = tt; range = λ small. (is_one who runs, is_one other there) }) (w 0) event is
  happens_allowed choice.TheVariants.Stop w who event short runs is = only (IsAllowed c Small) _ event is (stop_allowed who runs)
  happens_allowed choice.TheVariants.Start w who event short runs is = only (IsAllowed c Small) _ event is (start_later_allowed (w 0) who runs)
  happens_allowed choice.TheVariants.Join w who event short runs is =
      about (λ (other : UniqueModel). Join who other.address) (λ other there. record { may = (h.listed other (in_started other there), runs); admitted = tt; range = λ small. (is_one who runs, (is_one other there).address) }) (w 0) event is

  pub later_allowed : (w : Words) (event : Event) → (Small → (n : ℕ) → w n < 2 ^ 32) → later (sight_of c) w ≡ Some event → IsAllowed c Small event
  later_allowed w event short is = by_number (how_many c.running == 0) refl is
    where
      by_who : (o : Option UniqueModel) → chosen (w 1) c.running ≡ o → option_and_then (happens (choice_of (w 0 % 100)) (sight_of c) (after_one (after_one w))) o ≡ Some event → IsAllowed c Small event
      by_who None none is = absurd (nothing event is)
      by_who (Some who) some is = happens_allowed (choice_of (w 0 % 100)) (after_one (after_one w)) who event (λ small n. short small (suc (suc n))) (chosen_runs (w 1) c.running who some) is

      by_number : (b : Bool) → (how_many c.running == 0) ≡ b → cond b (anew (sight_of c) (w 0)) (option_and_then (happens (choice_of (w 0 % 100)) (sight_of c) (after_one (after_one w))) (chosen (w 1) c.running)) ≡ Some event → IsAllowed c Small event
      by_number true nobody is = anew_allowed (w 0) event (eqb-true _ _ nobody) is
      by_number false some is = by_who (chosen (w 1) c.running) refl is

-- ---- each event
-- few packets were sent, and the words are words of 32 bits
pub record AreSmall (c : Census) (w : Words) : Type 0 where
  pub packets : c.packets < 2 ^ 63
  pub words : (n : ℕ) → w n < 2 ^ 32

pub each_allowed : (given : ℕ) (c : Census) (w : Words) (event : Event) → Holds given c → next_event given (sight_of c) w ≡ Some event → IsAllowed c (AreSmall c w) event
each_allowed given c w event h is = by_number (nat_lt given 10) refl is
  where
    by_number : (b : Bool) → nat_lt given 10 ≡ b → cond b (slice_get opening given) (later (sight_of c) w) ≡ Some event → IsAllowed c (AreSmall c w) event
    by_number true early is = opening_allowed given c (AreSmall c w) event h (opening_at given event (ltb-true _ _ early) is)
    by_number false late is = later_allowed c (AreSmall c w) (λ small. small.packets) h.known h.started w event (λ small. small.words) is

-- of the first five, whoever waits still waits
still_waits : (given : ℕ) (c d : Census) (event : Event) → Holds given c → IsOpening given event → Follows c event d → (k : ℕ) → k < 5 → k < given + 1 → given + 1 ≤ k + 5 → Runs d (process (k + 1) 1)
still_waits given c d event h (starts lt is) f k few before after = elim (eqb given k) as (λ b. eqb given k ≡ b → Runs d (process (k + 1) 1)) [
  | true ↦ λ same. f.begins (process (k + 1) 1) (subst (λ e. Starts e (process (k + 1) 1)) (sym is) (ap (λ n. process (n + 1) 1) (sym (eqb-true given k same))))
  | false ↦ λ other.
      let apart : given ≢ k = eqb-false given k other in
      elim (f.stays (process (k + 1) 1) (h.waiting k few (omega arith) (omega arith))) [
        | inl runs ↦ runs
        | inr given_it ↦ absurd (subst (λ e. IsGiven e (process (k + 1) 1)) is given_it)
      ]
] refl
still_waits given c d event h (founds at is) f k few before after = elim (f.stays (process (k + 1) 1) (h.waiting k few (omega arith) (omega arith))) [
  | inl runs ↦ runs
  | inr given_it ↦
      let same = subst (λ e. IsGiven e (process (k + 1) 1)) is given_it in
      let equal = apart k 0 (omega arith) (omega arith) (ap (λ (u : UniqueModel). u.address) same) in absurd (omega arith)
]
still_waits given c d event h (joins j at from to is) f k few before after = elim (f.stays (process (k + 1) 1) (h.waiting k few (omega arith) (omega arith))) [
  | inl runs ↦ runs
  | inr given_it ↦
      let same = subst (λ e. IsGiven e (process (k + 1) 1)) is given_it in
      let equal = apart k j (omega arith) (omega arith) (ap (λ (u : UniqueModel). u.address) same) in absurd (omega arith)
]

-- after an early event the first processes were started, and nobody has founded
opens : (given : ℕ) (c d : Census) (event : Event) → Holds given c → IsOpening given event → Follows c event d → given + 1 ≤ 5 → (d.started ≡ first_started (given + 1)) × (d.founded ≡ false)
opens given c d event h (starts lt is) f le = (
  f.started ∙ ap (λ e. started_by e c.started) is ∙ ap (λ l. process (given + 1) 1 ∷ l) (h.opened (omega arith)) ∙ ap first_started (next_of given),
  f.founded ∙ ap (λ e. founded_by e c.founded) is ∙ h.unfounded (omega arith),
)
opens given c d event h (founds at is) f le = absurd (omega arith)
opens given c d event h (joins k at from to is) f le = absurd (omega arith)

early : (given : ℕ) (c : Census) (w : Words) (event : Event) → next_event given (sight_of c) w ≡ Some event → given < 10 → IsOpening given event
early given c w event is lt = opening_at given event lt (ap (λ b. cond b (slice_get opening given) (later (sight_of c) w)) (sym (lt-ltb given 10 lt)) ∙ is)

holds_next : (given : ℕ) (c d : Census) (w : Words) (event : Event) → Holds given c → next_event given (sight_of c) w ≡ Some event → Follows c event d → Holds (given + 1) d
holds_next given c d w event h is f =
    let allowed = each_allowed given c w event h is in
    record {
      known = subst AreKnown (sym f.started) (known_by event c.started allowed.admitted h.known);
      started = λ who runs. subst (λ l. Contains l who) (sym f.started) (elim (f.ran who runs) [
        | inl ran ↦ still_started event c.started who (h.started who ran)
        | inr begun_now ↦ starter_started event c.started who begun_now
      ]);
      opened = λ le. (opens given c d event h (early given c w event is (omega arith)) f le).0;
      unfounded = λ le. (opens given c d event h (early given c w event is (omega arith)) f le).1;
      waiting = λ k few before after. still_waits given c d event h (early given c w event is (omega arith)) f k few before after;
    }

holds : (given : ℕ) (c : Census) → IsGenerated given c → Holds given c
holds given c begun = holds_first
holds given c (goes_on before b d w event so_far is f) = holds_next before b d w event (holds before b so_far) is f

pub every_event_may_happen : (given : ℕ) (c : Census) (w : Words) (event : Event) → IsGenerated given c → next_event given (sight_of c) w ≡ Some event → MayHappen c event
every_event_may_happen given c w event so_far is = (each_allowed given c w event (holds given c so_far) is).may

pub every_event_is_one : (given : ℕ) (c : Census) (w : Words) (event : Event) → IsGenerated given c → next_event given (sight_of c) w ≡ Some event → c.packets < 2 ^ 63 → ((n : ℕ) → w n < 2 ^ 32) → IsEvent event
every_event_is_one given c w event so_far is packets words = (each_allowed given c w event (holds given c so_far) is).range (record { packets = packets; words = words })
