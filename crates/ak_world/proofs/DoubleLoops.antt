-- Of the first nodes of a list the first, in the order of processes, that runs and keeps an entity: how it goes on as a loop looks at one
-- node after another.
use Rattle.std.proofs.Common.{◌≡◌, ◌≢◌, Bool, true, false, ◌&&◌, ◌⊎◌, inl, inr, ℕ, zero, suc, ◌+◌, ◌<◌, ◌≤◌, List, [], ◌∷◌, length, take, take_all, Option, Some, None, slice_get, IsTrue, refl, sym, ap, ◌∙◌, subst, arith, true≢false}
use Rattle.std.proofs.lemmas.Option.{same_Some, none-some, slice_get_within}
use Rattle.std.specs.Ordering.{is_eq, is_lt, ordering_reverse}
use Rattle.std.specs.declared.cmp.Ordering.{Ordering}
use Rattle.std.specs.declared.cmp.Ordering.TheVariants.{Less, Equal, Greater}
use Rattle.ak_address.specs.Unique.{UniqueModel, unique_cmp}
use Rattle.ak_address.proofs.OrderLemmas.{unique_total, unique_exact, less_of}
use Rattle.ak_address.proofs.TableLaws.{key_itself}
use Rattle.ak_sharding.specs.Alive.{IsActive}
use Rattle.ak_wire.specs.declared.action.Action.{Action}
use Rattle.ak_wire.specs.declared.action.Action.TheVariants as action
use Rattle.ak_node.specs.declared.node.State.{State}
use Rattle.ak_node.specs.Node.{me_of}
use Rattle.ak_world.specs.Double.{ComesNotAfter, Doubled}
use Rattle.ak_world.specs.DoubleMark.{Keeps, IsKeeper, FirstKeeper, StartsNone, MadeBy, DoublesAt, keeps, comes_before, comes_first}
use Rattle.ak_world.proofs.DoubleKept.{before_or_last}

-- ---- the order of processes
not_after_itself : (u : UniqueModel) → unique_cmp u u ≡ Greater → ⊥
not_after_itself u greater = true≢false (sym (key_itself u) ∙ ap is_eq greater)

-- whoever comes before one comes after nobody whom that one does not come after
before_others : (u v w : UniqueModel) → unique_cmp u v ≡ Less → (unique_cmp v w ≡ Greater → ⊥) → unique_cmp u w ≡ Greater → ⊥
before_others u v w before least greater = by_order (unique_cmp v w) refl
  where
    no_less : unique_cmp u w ≡ Less → ⊥
    no_less less = true≢false (ap is_lt (sym less ∙ greater))

    by_order : (o : Ordering) → unique_cmp v w ≡ o → ⊥
    by_order Less is = no_less (unique_total.trans u v w before is)
    by_order Equal is = no_less (ap (unique_cmp u) (sym (unique_exact v w is)) ∙ before)
    by_order Greater is = least is

not_before : (u v : UniqueModel) → (unique_cmp u v ≡ Less → ⊥) → unique_cmp v u ≡ Greater → ⊥
not_before u v never greater = never (unique_total.antisymm u v ∙ ap ordering_reverse greater)

-- ---- the first of a list
pub in_first : {X : Type 0} (nodes : List X) (index j : ℕ) (m : X) → slice_get (take index nodes) j ≡ Some m → (j < index) × (slice_get nodes j ≡ Some m)
in_first nodes zero j m is = absurd (none-some m is)
in_first [] (suc index) j m is = absurd (none-some m is)
in_first (n ∷ nodes) (suc index) zero m is = (omega arith, is)
in_first (n ∷ nodes) (suc index) (suc j) m is = let rest = in_first nodes index j m is in let lt = rest.0 in (omega (arith, lt), rest.1)

pub first_in : {X : Type 0} (nodes : List X) (index j : ℕ) (m : X) → j < index → slice_get nodes j ≡ Some m → slice_get (take index nodes) j ≡ Some m
first_in nodes zero j m lt is = absurd (omega (arith, lt))
first_in [] (suc index) j m lt is = is
first_in (n ∷ nodes) (suc index) zero m lt is = is
first_in (n ∷ nodes) (suc index) (suc j) m lt is = first_in nodes index j m (omega (arith, lt)) is

module _ (nodes : List State) where
  -- the order of two of them is that of the list
  order_in : (index i j : ℕ) → i < index → j < index → ComesNotAfter (take index nodes) i j → ComesNotAfter nodes i j
  order_in index i j here there order = λ n m at also. order n m (first_in nodes index i n here at) (first_in nodes index j m there also)

  order_first : (index i j : ℕ) → ComesNotAfter nodes i j → ComesNotAfter (take index nodes) i j
  order_first index i j order = λ n m at also. order n m (in_first nodes index i n at).1 (in_first nodes index j m also).1

  order_itself : (index : ℕ) → ComesNotAfter nodes index index
  order_itself index = λ n m at also greater. not_after_itself (me_of n) (ap (λ (x : State). unique_cmp (me_of n) (me_of x)) (same_Some n m (sym at ∙ also)) ∙ greater)

  module _ (entity : List ℕ) where
    -- those of them that keep the entity are those of the list
    pub keeps_in : (index other : ℕ) → Keeps (take index nodes) entity other → (other < index) × Keeps nodes entity other
    keeps_in index other k = let there = in_first nodes index other k.node k.at in (there.0, record { node = k.node; at = there.1; runs = k.runs; active = k.active })

    keeps_first : (index other : ℕ) → other < index → Keeps nodes entity other → Keeps (take index nodes) entity other
    keeps_first index other lt k = record { node = k.node; at = first_in nodes index other k.node lt k.at; runs = k.runs; active = k.active }

    -- ---- one node more
    module _ (but index : ℕ) where
      -- what is true of each before it that keeps the entity, and of it, is true of each
      each_of_more : (P : ℕ → Type 0) → ((other : ℕ) → other < index → Keeps nodes entity other → other ≢ but → P other) → (Keeps nodes entity index → index ≢ but → P index)
          → (other : ℕ) → Keeps (take (index + 1) nodes) entity other → other ≢ but → P other
      each_of_more P before last other k apart =
          let there = keeps_in (index + 1) other k in
          elim (before_or_last other index (let lt = there.0 in omega (arith, lt))) [
            | inl less ↦ before other less there.1 apart
            | inr here ↦ subst P (sym here) (last (subst (λ j. Keeps nodes entity j) here there.1) (λ same. apart (here ∙ same)))
          ]

      none_stays : FirstKeeper (take index nodes) entity but None → (Keeps nodes entity index → index ≢ but → ⊥) → FirstKeeper (take (index + 1) nodes) entity but None
      none_stays none never = λ other k apart. each_of_more (λ j. ⊥) (λ j less keeps other_one. none j (keeps_first index j less keeps) other_one) never other k apart

      one_stays : (number : ℕ) → IsKeeper (take index nodes) entity but number → (Keeps nodes entity index → index ≢ but → ComesNotAfter nodes number index) → IsKeeper (take (index + 1) nodes) entity but number
      one_stays number k last =
          let there = keeps_in index number k.keeps in
          record {
            keeps = keeps_first (index + 1) number (let lt = there.0 in omega (arith, lt)) there.1;
            apart = k.apart;
            least = λ other also apart.
                order_first (index + 1) number other
                (each_of_more (λ j. ComesNotAfter nodes number j) (λ j less keeps other_one. order_in index number j there.0 less (k.least j (keeps_first index j less keeps) other_one)) last other also apart);
          }

      one_comes : Keeps nodes entity index → index ≢ but → ((other : ℕ) → other < index → Keeps nodes entity other → other ≢ but → ComesNotAfter nodes index other) → IsKeeper (take (index + 1) nodes) entity but index
      one_comes keeps apart before = record {
        keeps = keeps_first (index + 1) index (omega arith) keeps;
        apart = apart;
        least = λ other also other_one. order_first (index + 1) index other (each_of_more (λ j. ComesNotAfter nodes index j) before (λ here not_but. order_itself index) other also other_one);
      }

-- ---- in a loop: before the first node none is found
pub keeper_none : (nodes : List State) (entity : List ℕ) (but : ℕ) → FirstKeeper (take 0 nodes) entity but None
keeper_none nodes entity but = λ other k apart. none-some k.node k.at

-- who keeps the entity is one of the nodes
pub keeper_within : (nodes : List State) (entity : List ℕ) (but best : ℕ) → FirstKeeper nodes entity but (Some best) → best < length nodes
keeper_within nodes entity but best first = slice_get_within nodes best first.keeps.node first.keeps.at

-- past the last node there is nothing more to find
pub keeper_past : (nodes : List State) (entity : List ℕ) (but index : ℕ) (found : Option ℕ) → slice_get nodes index ≡ None → FirstKeeper (take index nodes) entity but found → FirstKeeper (take (index + 1) nodes) entity but found
keeper_past nodes entity but index None past none = none_stays nodes entity but index none (λ k apart. none-some k.node (sym past ∙ k.at))
keeper_past nodes entity but index (Some number) past first = one_stays nodes entity but index number first (λ k apart. absurd (none-some k.node (sym past ∙ k.at)))

pub keeper_whole : (nodes : List State) (entity : List ℕ) (but index : ℕ) (found : Option ℕ) → length nodes ≤ index → FirstKeeper (take index nodes) entity but found → FirstKeeper nodes entity but found
keeper_whole nodes entity but index found le first = subst (λ l. FirstKeeper l entity but found) (take_all index nodes le) first

module _ (nodes : List State) (entity : List ℕ) (but index : ℕ) (n : State) (at : slice_get nodes index ≡ Some n) where
  -- the node keeps the entity, and comes before the one that was found, if there is one
  before_each : (found : Option ℕ) → FirstKeeper (take index nodes) entity but found → ((best : ℕ) (m : State) → found ≡ Some best → slice_get nodes best ≡ Some m → unique_cmp (me_of n) (me_of m) ≡ Less)
      → (other : ℕ) → other < index → Keeps nodes entity other → other ≢ but → ComesNotAfter nodes index other
  before_each None none before other less keeps apart = absurd (none other (keeps_first nodes entity index other less keeps) apart)
  before_each (Some best) first before other less keeps apart =
      let there = keeps_in nodes entity index best first.keeps in
      let k = there.1 in
      let order = order_in nodes index best other there.0 less (first.least other (keeps_first nodes entity index other less keeps) apart) in
      λ x y here also.
      before_others (me_of x) (me_of k.node) (me_of y) (ap (λ (s : State). unique_cmp (me_of s) (me_of k.node)) (same_Some x n (sym here ∙ at)) ∙ before best k.node refl k.at)
      (order k.node y k.at also)

  -- why the one that was found stays: the node is left out, or does not keep the entity, or does not come before
  abbrev pub Stays : Option ℕ → Type 0
  Stays found =
      (index ≡ but) ⊎ (((IsTrue n.runs × IsActive n.sharding entity) → ⊥) ⊎ ((best : ℕ) × (m : State) × (found ≡ Some best) × (slice_get nodes best ≡ Some m) × (unique_cmp (me_of n) (me_of m) ≡ Less → ⊥)))

  is_kept : Keeps nodes entity index → IsTrue n.runs × IsActive n.sharding entity
  is_kept k = let same = same_Some k.node n (sym k.at ∙ at) in (subst (λ (s : State). IsTrue s.runs) same k.runs, subst (λ (s : State). IsActive s.sharding entity) same k.active)

  none_here : Stays None → Keeps nodes entity index → index ≢ but → ⊥
  none_here (inl same) k apart = apart same
  none_here (inr (inl never)) k apart = never (is_kept k)
  none_here (inr (inr later)) k apart = none-some later.0 later.2

  later_here : (number : ℕ) → Stays (Some number) → Keeps nodes entity index → index ≢ but → ComesNotAfter nodes number index
  later_here number (inl same) k apart = absurd (apart same)
  later_here number (inr (inl never)) k apart = absurd (never (is_kept k))
  later_here number (inr (inr later)) k apart = λ x y here also greater.
      let first : x ≡ later.1 = same_Some x later.1 (sym here ∙ ap (slice_get nodes) (same_Some number later.0 later.2) ∙ later.3) in
      let second : y ≡ n = same_Some y n (sym also ∙ at) in
      not_before (me_of n) (me_of later.1) later.4
      (ap (λ (s : State). unique_cmp (me_of s) (me_of n)) (sym first) ∙ ap (λ (s : State). unique_cmp (me_of x) (me_of s)) (sym second) ∙ greater)

  stays_by : (found : Option ℕ) → FirstKeeper (take index nodes) entity but found → Stays found → FirstKeeper (take (index + 1) nodes) entity but found
  stays_by None none why = none_stays nodes entity but index none (none_here why)
  stays_by (Some number) first why = one_stays nodes entity but index number first (later_here number why)

-- among the first nodes one more is looked at: it is the first now
pub keeper_found : (nodes : List State) (entity : List ℕ) (but index : ℕ) (n : State) (found : Option ℕ) → slice_get nodes index ≡ Some n → FirstKeeper (take index nodes) entity but found
    → index ≢ but → IsTrue n.runs → IsActive n.sharding entity → ((best : ℕ) (m : State) → found ≡ Some best → slice_get nodes best ≡ Some m → unique_cmp (me_of n) (me_of m) ≡ Less)
    → FirstKeeper (take (index + 1) nodes) entity but (Some index)
keeper_found nodes entity but index n found at first apart runs active before =
    one_comes nodes entity but index (record { node = n; at = at; runs = runs; active = active }) apart (before_each nodes entity but index n at found first before)

-- or the one that was found stays
pub keeper_stays : (nodes : List State) (entity : List ℕ) (but index : ℕ) (n : State) (found : Option ℕ) → slice_get nodes index ≡ Some n → FirstKeeper (take index nodes) entity but found
    → (index ≡ but) ⊎ (((IsTrue n.runs × IsActive n.sharding entity) → ⊥) ⊎ ((best : ℕ) × (m : State) × (found ≡ Some best) × (slice_get nodes best ≡ Some m) × (unique_cmp (me_of n) (me_of m) ≡ Less → ⊥)))
    → FirstKeeper (take (index + 1) nodes) entity but found
keeper_stays nodes entity but index n found at first why = stays_by nodes entity but index n at found first why

-- ---- the same by the tests of the code
both_hold : (a b : Bool) → a && b ≡ true → IsTrue a × (b ≡ true)
both_hold true b is = (refl, is)
both_hold false b is = absurd (true≢false (sym is))

both_test : (a b : Bool) → IsTrue a → b ≡ true → a && b ≡ true
both_test true b holds is = is
both_test false b holds is = absurd (true≢false (sym holds))

pub passed_itself : (nodes : List State) (entity : List ℕ) (but index : ℕ) (found : Option ℕ) → FirstKeeper (take index nodes) entity but found → index ≡ but → FirstKeeper (take (index + 1) nodes) entity but found
passed_itself nodes entity but index None none same = none_stays nodes entity but index none (λ k apart. apart same)
passed_itself nodes entity but index (Some number) first same = one_stays nodes entity but index number first (λ k apart. absurd (apart same))

module _ (nodes : List State) (entity : List ℕ) (but index : ℕ) (n : State) (at : slice_get nodes index ≡ Some n) where
  compared : (best : ℕ) (m : State) (b : Bool) → slice_get nodes best ≡ Some m → comes_first nodes index (Some best) ≡ b → is_lt (unique_cmp (me_of n) (me_of m)) ≡ b
  compared best m b also is = sym (ap (comes_before (Some n)) also) ∙ sym (ap (λ o. comes_before o (slice_get nodes best)) at) ∙ is

  pub keeper_next : (found : Option ℕ) → FirstKeeper (take index nodes) entity but found → index ≢ but → keeps entity n ≡ true → comes_first nodes index found ≡ true → FirstKeeper (take (index + 1) nodes) entity but (Some index)
  keeper_next found first apart kept before =
      let k = both_hold n.runs _ kept in
      keeper_found nodes entity but index n found at first apart k.0 k.1
      (λ best m is_best also. less_of (unique_cmp (me_of n) (me_of m)) (compared best m true also (subst (λ o. comes_first nodes index o ≡ true) is_best before)))

  pub passed_idle : (found : Option ℕ) → FirstKeeper (take index nodes) entity but found → keeps entity n ≡ false → FirstKeeper (take (index + 1) nodes) entity but found
  passed_idle found first idle = keeper_stays nodes entity but index n found at first (inr (inl (λ k. true≢false (sym (both_test n.runs _ k.0 k.1) ∙ idle))))

  pub passed_later : (found : Option ℕ) → FirstKeeper (take index nodes) entity but found → comes_first nodes index found ≡ false → FirstKeeper (take (index + 1) nodes) entity but found
  passed_later None first later = absurd (true≢false later)
  passed_later (Some best) first later =
      let k = (keeps_in nodes entity index best first.keeps).1 in
      keeper_stays nodes entity but index n (Some best) at first
      (inr (inr (best, k.node, refl, k.at, λ less. true≢false (sym (ap is_lt less) ∙ compared best k.node false k.at later))))

-- ---- an action, and the first of a list of actions
abbrev entity_in : Action → List ℕ
entity_in (action.Entity entity) = entity
entity_in _ = []

-- no other node keeps what the action starts
pub made_none : (nodes : List State) (x : List ℕ) (acting : ℕ) (a : Action) (found : Option ℕ) → a ≡ action.Entity x → found ≡ None → FirstKeeper nodes x acting found
    → (y : List ℕ) → a ≡ action.Entity y → FirstKeeper nodes y acting None
made_none nodes x acting a found is none first y also =
    subst (λ e. FirstKeeper nodes e acting None) (ap entity_in (sym is ∙ also)) (subst (λ o. FirstKeeper nodes x acting o) none first)

module _ (nodes : List State) (acting step : ℕ) (actions : List Action) where
  pub starts_more : (index : ℕ) (a : Action) → slice_get actions index ≡ Some a → StartsNone nodes acting (take index actions) → MadeBy step nodes acting a None → StartsNone nodes acting (take (index + 1) actions)
  starts_more index a at before here place x is =
      let there = in_first actions (index + 1) place (action.Entity x) is in
      elim (before_or_last place index (let lt = there.0 in omega (arith, lt))) [
        | inl less ↦ before place x (first_in actions index place (action.Entity x) less there.1)
        | inr same ↦ here x (same_Some a (action.Entity x) (sym at ∙ ap (slice_get actions) (sym same) ∙ there.1))
      ]

  pub starts_first : (index : ℕ) (a : Action) (d : Doubled) → slice_get actions index ≡ Some a → StartsNone nodes acting (take index actions) → MadeBy step nodes acting a (Some d) → DoublesAt step nodes acting actions (Some d)
  starts_first index a d at before made = (
    record {
      place = index;
      at = at ∙ ap (λ (x : Action). Some x) made.0;
      keeper = made.1;
      first = λ earlier other lt is. before earlier other (first_in actions index earlier (action.Entity other) lt is);
    },
    made.2,
    made.3,
  )

  pub starts_none : (index : ℕ) → length actions ≤ index → StartsNone nodes acting (take index actions) → StartsNone nodes acting actions
  starts_none index le before = subst (λ l. StartsNone nodes acting l) (take_all index actions le) before
