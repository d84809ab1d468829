-- Which orders there are, and for whom.
use Rattle.std.proofs.Common.{◌≡◌, ◌↔◌, ℕ, zero, suc, Bool, true, false, cond, ◌+◌, ◌<◌, [], ◌∷◌, length, get_or, Contains, Option, Some, None, inl, inr, refl, sym, ap, ◌∙◌, subst, arith}
use Rattle.ak_address.specs.Unique.{UniqueModel}
use Rattle.ak_address.specs.Uniques.{UniqueSet, has, in_order}
use Rattle.ak_address.proofs.CountersLaws.{has-set_of, set_of-in_order, is_among}
use Rattle.ak_address.proofs.Elements.{contains_either, contains_left, contains_right, contains_nothing, first_or_rest, in_map}
use Rattle.ak_coordinator.specs.declared.entry.Stage.{Stage}
use Rattle.ak_coordinator.specs.declared.entry.Stage.TheVariants.{Still, Holding, Leaving}
use Rattle.ak_coordinator.specs.declared.orders.Order.{Order}
use Rattle.ak_coordinator.specs.declared.orders.Order.TheVariants as order
use Rattle.ak_coordinator.specs.Table.{Home, ShardEntry, ShardTable}
use Rattle.ak_coordinator.specs.Entry.{unplaced}
use Rattle.ak_coordinator.specs.Coordinator.{entry_of}
use Rattle.ak_coordinator.specs.Tick.{begin_order, orders_to, orders_at, orders_of, orders_from}
use Rattle.ak_coordinator.specs.Meaning.{IsFor}

from_orders : (start : ℕ) (table : ShardTable) (given : Order) → Contains (orders_from start table) given → (k : ℕ) × (k < length table) × Contains (orders_of (start + k) (get_or table k unplaced)) given
from_orders start [] given there = absurd (contains_nothing given there)
from_orders start (entry ∷ entries) given there = elim (contains_either (orders_of start entry) (orders_from (start + 1) entries) given there) [
  | inl here ↦ (zero, omega arith, subst (λ s. Contains (orders_of s entry) given) (let e : start ≡ start + zero = omega arith in e) here)
  | inr later ↦
      let h = from_orders (start + 1) entries given later in
      (suc h.0, (let lt = h.1 in omega arith), subst (λ s. Contains (orders_of s (get_or entries h.0 unplaced)) given) (let e : start + 1 + h.0 ≡ start + suc h.0 = omega arith in e) h.2)
]

in_orders : (start : ℕ) (table : ShardTable) (given : Order) (k : ℕ) → k < length table → Contains (orders_of (start + k) (get_or table k unplaced)) given → Contains (orders_from start table) given
in_orders start [] given k lt there = absurd (omega arith)
in_orders start (entry ∷ entries) given zero lt there =
    contains_left (orders_of start entry) (orders_from (start + 1) entries) given (subst (λ s. Contains (orders_of s entry) given) (let e : start + zero ≡ start = omega arith in e) there)
in_orders start (entry ∷ entries) given (suc k) lt there =
    contains_right (orders_of start entry) (orders_from (start + 1) entries) given
    (in_orders (start + 1) entries given k (omega arith) (subst (λ s. Contains (orders_of s (get_or entries k unplaced)) given) (let e : start + suc k ≡ start + 1 + k = omega arith in e) there))

pub orders_each : (table : ShardTable) (given : Order) → Contains (orders_from 0 table) given ↔ ((shard : ℕ) × (shard < length table) × Contains (orders_of shard (entry_of table shard)) given)
orders_each table given = (
  λ there. let h = from_orders 0 table given there in
      (h.0, h.1, subst (λ s. Contains (orders_of s (get_or table h.0 unplaced)) given) (let e : 0 + h.0 ≡ h.0 = omega arith in e) h.2),
  λ h. in_orders 0 table given h.0 h.1 (subst (λ s. Contains (orders_of s (get_or table h.0 unplaced)) given) (let e : h.0 ≡ 0 + h.0 = omega arith in e) h.2),
)

only : {X : Type 0} (x y : X) → Contains (x ∷ []) y → y ≡ x
only x y there = elim (first_or_rest x y [] there) [ inl same ↦ same | inr later ↦ absurd (contains_nothing y later) ]

in_set : (s : UniqueSet) (who : UniqueModel) → Contains (in_order s) who → has s who ≡ true
in_set s who there = ap (λ t. has t who) (sym (set_of-in_order s)) ∙ has-set_of (in_order s) who ∙ is_among (in_order s) who there

pub orders_mean : (shard : ℕ) (entry : ShardEntry) (given : Order) → Contains (orders_of shard entry) given → IsFor shard entry given
orders_mean shard entry given there = at_home entry.home refl there
  where
    still : (home : Home) → entry.home ≡ Some home → entry.stage ≡ Still → (b : Bool) → entry.started ≡ b → Contains (cond b [] (order.Host shard home.number home.owner ∷ [])) given → IsFor shard entry given
    still home placed stage true started there = absurd (contains_nothing given there)
    still home placed stage false started there = subst (IsFor shard entry) (sym (only _ given there)) (refl, stage, started, placed)

    at_stage : (home : Home) → entry.home ≡ Some home → (stage : Stage) → entry.stage ≡ stage → Contains (orders_to shard entry home stage) given → IsFor shard entry given
    at_stage home placed Still stage there = still home placed stage entry.started refl there
    at_stage home placed Holding stage there =
        let h = in_map (begin_order shard home.number) (in_order entry.waits) given there in
        subst (IsFor shard entry) (sym h.2) (refl, stage, in_set entry.waits h.0 h.1, (home, placed, refl))
    at_stage home placed Leaving stage there = subst (IsFor shard entry) (sym (only _ given there)) (refl, stage, placed)

    at_home : (home : Option Home) → entry.home ≡ home → Contains (orders_at shard entry home) given → IsFor shard entry given
    at_home None placed there = absurd (contains_nothing given there)
    at_home (Some home) placed there = at_stage home placed entry.stage refl there
