-- Each rule of the coordinator keeps the ranges of its table, and what it orders has a spelling.
use Rattle.std.proofs.Common.{◌≡◌, ℕ, ◌+◌, ◌-◌, ◌==◌, ◌≤◌, max, Bool, true, false, cond, ◌&&◌, ◌||◌, List, [], ◌∷◌, ◌++◌, length, map, Contains, Option, None, Some, is_some, refl, sym, ap, ◌∙◌, subst, arith, true≢false, if◌then◌else◌}
use Rattle.std.proofs.lemmas.Bool.{ltb-true}
use Rattle.std.specs.Prelude.{nat_lt}
use Rattle.std.specs.List.{filter}
use Rattle.std.specs.Ordering.{is_eq, eq_by_cmp}
use Rattle.std.specs.FinMap as finmap
use Rattle.ak_address.specs.Unique.{UniqueModel, IsUnique, unique_cmp}
use Rattle.ak_address.specs.Uniques.{UniqueSet, has, no_one, without_one, in_order, set_of, how_many}
use Rattle.ak_address.proofs.Elements.{contains_first, contains_rest, index_of, in_map, in_filter}
use Rattle.ak_address.proofs.UniquesLaws.{has-no_one, has-with_one, has_at}
use Rattle.ak_address.proofs.TableLaws.{same_key, get-remove}
use Rattle.ak_address.proofs.BoolLemmas.{both_true}
use Rattle.ak_allocation.specs.declared.load.Load.{Load}
use Rattle.ak_allocation.specs.Allocation.{lightest}
use Rattle.ak_allocation.proofs.AllocationLaws.{lightest_is}
use Rattle.ak_clock.specs.declared.version.TheConstants.{BOUND}
use Rattle.ak_coordinator.specs.declared.entry.Homing.TheVariants as homings
use Rattle.ak_coordinator.specs.declared.entry.Stage.{Stage}
use Rattle.ak_coordinator.specs.declared.entry.Stage.TheVariants as stages
use Rattle.ak_coordinator.specs.declared.orders.Order.{Order}
use Rattle.ak_coordinator.specs.declared.orders.Order.TheVariants as order
use Rattle.ak_coordinator.specs.Table.{Home, ShardEntry, ShardTable}
use Rattle.ak_coordinator.specs.Entry.{unplaced, moves, claims, learnt, most_number, allotted_to, allotted, after_allotment, told, homing_of, placed_if_free, after_get_home, after_started, is_awaited, is_last_ack, after_ack, freed, awaits_stop, is_holding}
use Rattle.ak_coordinator.specs.Coordinator.{entry_of, with_entry, learnt_all, less_one, load_of, may_host, loads_of}
use Rattle.ak_coordinator.specs.Tick.{unfinished, is_unfinished, has_finished_home, noticed, begun, with_begun, first_leaver, moving, after_begin, hurried, begin_order, orders_to, orders_at, orders_of, orders_from}
use Rattle.ak_field.specs.Ranges.{IsNumber, IsShard}
use Rattle.ak_member.specs.Standing.{Standings, member_pairs, is_up}
use Rattle.ak_member.specs.declared.status.Status.{Status}
use Rattle.ak_promise.specs.Ballot.{BallotModel, IsBallot}
use Rattle.ak_settled.specs.SettledView.{SettledView}
use Rattle.ak_settled.specs.Settled.{standings_of}
use Rattle.ak_shard_id.specs.declared.report.Report.{Report}
use Rattle.ak_wire.specs.declared.action.Action.{Action}
use Rattle.ak_wire.specs.declared.envelope.Message as wire
use Rattle.ak_sharding.specs.Sharding.{ShardingModel, Around, nothing}
use Rattle.ak_sharding.specs.Hosts.{has_shard}
use Rattle.ak_sharding.specs.Coordinates.{is_active, is_active_with, on_table, if_active, loads, orders_host, tells_home, on_get_home, on_shard_started, orders_hand_off, on_ack, orders_placed, on_shard_stopped, gives_order, ticked_table, coordinates_with, coordinates, learns_reports}
use Rattle.ak_sharding.specs.Ranges.{AllOf, IfThere, AreUniques, HomeInRange, EntryInRange, TableInRange, ReportInRange, InRange, AroundInRange, IsSentWell, GoesWell}
use Rattle.ak_sharding.proofs.RangesKept.{all_map, all_at, all_set, set_many, map_many, sent_to, both_well, is_shard}

-- ---- sets
pub nobody_in : AreUniques no_one
nobody_in who is = absurd (true≢false (sym is ∙ has-no_one who))

set_of_in : (whos : List UniqueModel) → ((who : UniqueModel) → Contains whos who → IsUnique who) → AreUniques (set_of whos)
set_of_in [] each who is = nobody_in who is
set_of_in (first ∷ whos) each who is = by_test (eq_by_cmp unique_cmp who first) refl (sym (has-with_one (set_of whos) first who) ∙ is) (set_of_in whos (λ u there. each u (contains_rest first u whos there)) who)
  where
    by_test : (b : Bool) → eq_by_cmp unique_cmp who first ≡ b → (b || has (set_of whos) who) ≡ true → (has (set_of whos) who ≡ true → IsUnique who) → IsUnique who
    by_test true same h rest = subst IsUnique (sym (same_key who first same)) (each first (contains_first first whos))
    by_test false apart h rest = rest h

in_order_in : (s : UniqueSet) → AreUniques s → (who : UniqueModel) → Contains (in_order s) who → IsUnique who
in_order_in s all who there = let i = index_of (in_order s) who there in all who (has_at s i.0 who i.1)

less_has : (q : UniqueSet) (one who : UniqueModel) → has (without_one q one) who ≡ true → has q who ≡ true
less_has q one who is = by_test (eq_by_cmp unique_cmp who one) (sym (ap is_some (get-remove q one who)) ∙ is)
  where
    by_test : (b : Bool) → is_some (cond b None (finmap.get q who)) ≡ true → has q who ≡ true
    by_test true h = absurd (true≢false (sym h))
    by_test false h = h

unfinished_in : (margin : ℕ) (settled : SettledView) (s : UniqueSet) → AreUniques s → AreUniques (unfinished margin settled s)
unfinished_in margin settled s all = set_of_in _ (λ who there. in_order_in s all who (in_filter (is_unfinished margin settled) (in_order s) who there).0)

-- ---- loads
abbrev LoadsInRange : List Load → Type 0
LoadsInRange all = (load : Load) → Contains all load → IsUnique load.unique

loads_in : (table : ShardTable) (granted : UniqueSet) (s : Standings) → AreUniques granted → LoadsInRange (loads_of table granted s)
loads_in table granted s all load there =
    let m = in_map (λ (pair : UniqueModel × (Status × ℕ)). load_of table pair.0) (filter (may_host granted) (member_pairs (finmap.entries s))) load there in
    let f = in_filter (may_host granted) (member_pairs (finmap.entries s)) m.0 m.1 in
    subst IsUnique (ap (λ (l : Load). l.unique) (sym m.2)) (all m.0.0 (both_true (is_up m.0.1.0) (has granted m.0.0) f.1).1)

less_in : (from : UniqueModel) (all : List Load) → LoadsInRange all → LoadsInRange (map (less_one from) all)
less_in from all is load there =
    let m = in_map (less_one from) all load there in
    subst IsUnique (sym (ap (λ (l : Load). l.unique) m.2 ∙ same m.0 (is_eq (unique_cmp m.0.unique from)) refl)) (is m.0 m.1)
  where
    same : (l : Load) (b : Bool) → is_eq (unique_cmp l.unique from) ≡ b → (less_one from l).unique ≡ l.unique
    same l true is_b = ap (λ c. (if c then record l { shards = l.shards - 1 } else l).unique) is_b
    same l false is_b = ap (λ c. (if c then record l { shards = l.shards - 1 } else l).unique) is_b

-- ---- entries
number_next : (last : ℕ) → nat_lt last most_number ≡ true → IsNumber (last + 1)
number_next last less = let lt = ltb-true last most_number less in record { some = omega arith; bounded = omega (arith, lt) }

allotted_in : (all : List Load) (entry : ShardEntry) → LoadsInRange all → IfThere HomeInRange (allotted all entry)
allotted_in all entry is = by_load (lightest all) refl
  where
    by_load : (o : Option Load) → lightest all ≡ o → IfThere HomeInRange (allotted_to entry.last o)
    by_load None none = tt
    by_load (Some load) at = by_test (nat_lt entry.last most_number) refl
      where
        by_test : (b : Bool) → nat_lt entry.last most_number ≡ b → IfThere HomeInRange (if b then Some (record { owner = load.unique; number = entry.last + 1 }) else None)
        by_test true less = record { owner = is load (lightest_is all load at).there; number = number_next entry.last less }
        by_test false most = tt

placed_in : (o : Option Home) (entry : ShardEntry) → IfThere HomeInRange o → EntryInRange entry → EntryInRange (after_allotment o entry)
placed_in None entry h e = e
placed_in (Some home) entry h e = record { last = h.number.bounded; home = h; waits = nobody_in }

freed_in : (entry : ShardEntry) → EntryInRange entry → EntryInRange (freed entry)
freed_in entry e = record { last = e.last; home = tt; waits = nobody_in }

pub unplaced_in : EntryInRange unplaced
unplaced_in = record { last = omega arith; home = tt; waits = nobody_in }

entry_in : (table : ShardTable) → TableInRange table → (shard : ℕ) → EntryInRange (entry_of table shard)
entry_in table t shard = all_at EntryInRange table shard unplaced t.1 unplaced_in

put_in : (table : ShardTable) (shard : ℕ) (entry : ShardEntry) → TableInRange table → EntryInRange entry → TableInRange (with_entry table shard entry)
put_in table shard entry t e = (subst (λ n. n ≤ 1000) (sym (set_many table shard entry)) t.0, all_set EntryInRange table shard entry t.1 e)

max_in : (x y : ℕ) → x ≤ BOUND → y ≤ BOUND → max x y ≤ BOUND
max_in x y p q = omega (arith, p, q)

learnt_in : (asking : Bool) (from : UniqueModel) (report : Report) (entry : ShardEntry) → IsUnique from → ReportInRange report → EntryInRange entry → EntryInRange (learnt asking from report entry)
learnt_in asking from report entry from_is r e = by_test (report.hosted && claims asking from report.number entry.home)
  where
    by_test : (b : Bool) → EntryInRange (if b then record entry { last = max entry.last report.number; home = Some (record { owner = from; number = report.number }); started = true } else record entry { last = max entry.last report.number })
    by_test true = record { last = max_in entry.last report.number e.last r.bounded; home = record { owner = from_is; number = r }; waits = e.waits }
    by_test false = record { last = max_in entry.last report.number e.last r.bounded; home = e.home; waits = e.waits }

pub learnt_all_in : (asking : Bool) (from : UniqueModel) (reports : List Report) (table : ShardTable) → IsUnique from → AllOf ReportInRange reports → TableInRange table → TableInRange (learnt_all asking from reports table)
learnt_all_in asking from [] table from_is r t = t
learnt_all_in asking from (report ∷ reports) table from_is r t =
    learnt_all_in asking from reports (with_entry table report.shard (learnt asking from report (entry_of table report.shard))) from_is r.1
    (put_in table report.shard (learnt asking from report (entry_of table report.shard)) t (learnt_in asking from report (entry_of table report.shard) from_is r.0 (entry_in table t report.shard)))

pub from_first : (n : ℕ) → n ≤ 1000 → 0 + n ≤ 1000
from_first n few = omega (arith, few)

-- ---- the rules
module _ (around : Around) (a : AroundInRange around) where
  loads_well : (table : ShardTable) → LoadsInRange (loads around table)
  loads_well table = loads_in table around.singleton.granted (standings_of around.settled) a.granted

  host_well : (b : BallotModel) (shard : ℕ) (home : Home) → IsBallot b → IsShard shard → HomeInRange home → IsSentWell (orders_host around b shard home)
  host_well b shard home b_is inside h = sent_to around.me home.owner (wire.TheVariants.HostShard b shard home.number) a.me h.owner refl (b_is, (inside, h.number))

  module _ (s : ShardingModel) (k : InRange s) where
    table_well : (rule : ShardTable → ShardTable × List Action) → ((table : ShardTable) → TableInRange table → TableInRange (rule table).0 × AllOf IsSentWell (rule table).1) → GoesWell (on_table rule s.table s)
    table_well rule w = by_table s.table k.table
      where
        by_table : (o : Option ShardTable) → IfThere TableInRange o → GoesWell (on_table rule o s)
        by_table None t = (k, tt)
        by_table (Some table) t = let r = w table t in (record { region = k.region; table = r.0 }, r.1)

    active_well : (b : BallotModel) (shard : ℕ) (rule : ShardTable → ShardTable × List Action) → (IsShard shard → (table : ShardTable) → TableInRange table → TableInRange (rule table).0 × AllOf IsSentWell (rule table).1) → GoesWell (if_active around b shard rule s)
    active_well b shard rule w = both_well (has_shard shard s) (is_active_with around b) s _ k (λ there. table_well rule (w (is_shard shard s k there)))

    pub get_home_in : (from : UniqueModel) (b : BallotModel) (shard : ℕ) → IsUnique from → IsBallot b → GoesWell (on_get_home around from b shard s)
    get_home_in from b shard from_is b_is = active_well b shard _ (λ inside table t. (
      put_in table shard (after_get_home (loads around table) (entry_of table shard)) t (by_free table (entry_of table shard) (entry_in table t shard) (entry_of table shard).home),
      by_home inside table (entry_of table shard) (entry_of table shard).home (entry_in table t shard).home,
    ))
      where
        by_free : (table : ShardTable) (entry : ShardEntry) → EntryInRange entry → (o : Option Home) → EntryInRange (placed_if_free (loads around table) entry o)
        by_free table entry e None = placed_in (allotted (loads around table) entry) entry (allotted_in (loads around table) entry (loads_well table)) e
        by_free table entry e (Some home) = e

        tells : IsShard shard → (o : Option Home) → IfThere HomeInRange o → AllOf IsSentWell (tells_home around from b shard (told o))
        tells inside None h = tt
        tells inside (Some home) h = (host_well b shard home b_is inside h, (sent_to around.me from (wire.TheVariants.Home b shard home.owner) a.me from_is refl (b_is, (inside, h.owner)), tt))

        by_home : IsShard shard → (table : ShardTable) (entry : ShardEntry) (o : Option Home) → IfThere HomeInRange o → AllOf IsSentWell (tells_home around from b shard (homing_of (loads around table) entry o))
        by_home inside table entry None h = tells inside (allotted (loads around table) entry) (allotted_in (loads around table) entry (loads_well table))
        by_home inside table entry (Some home) h = by_moves (moves entry)
          where
            by_moves : (m : Bool) → AllOf IsSentWell (tells_home around from b shard (if m then homings.Moving else homings.Known home.owner))
            by_moves true = tt
            by_moves false = (sent_to around.me from (wire.TheVariants.Home b shard home.owner) a.me from_is refl (b_is, (inside, h.owner)), tt)

    pub started_in : (from : UniqueModel) (b : BallotModel) (shard number : ℕ) → GoesWell (on_shard_started around from b shard number s)
    started_in from b shard number = active_well b shard _ (λ inside table t.
        (put_in table shard (after_started from number (entry_of table shard)) t (let e = entry_in table t shard in record { last = e.last; home = e.home; waits = e.waits }), tt))

    pub ack_in : (from : UniqueModel) (b : BallotModel) (shard number : ℕ) → IsBallot b → GoesWell (on_ack around from b shard number s)
    ack_in from b shard number b_is = active_well b shard _ (λ inside table t. (
      put_in table shard (after_ack from number (entry_of table shard)) t (by_awaited (entry_of table shard) (entry_in table t shard) (is_awaited from number (entry_of table shard))),
      by_last inside (is_last_ack from number (entry_of table shard)) (entry_of table shard).home (entry_in table t shard).home,
    ))
      where
        by_awaited : (entry : ShardEntry) → EntryInRange entry → (w : Bool) → EntryInRange (if w then record entry { stage = if is_last_ack from number entry then stages.Leaving else stages.Holding; waits = without_one entry.waits from } else entry)
        by_awaited entry e true = record { last = e.last; home = e.home; waits = λ who is. e.waits who (less_has entry.waits from who is) }
        by_awaited entry e false = e

        by_last : IsShard shard → (last : Bool) (o : Option Home) → IfThere HomeInRange o → AllOf IsSentWell (orders_hand_off around b shard last o)
        by_last inside false o h = tt
        by_last inside true None h = tt
        by_last inside true (Some home) h = (sent_to around.me home.owner (wire.TheVariants.HandOff b shard home.number) a.me h.owner refl (b_is, (inside, h.number)), tt)

    pub stopped_in : (from : UniqueModel) (b : BallotModel) (shard number : ℕ) → IsBallot b → GoesWell (on_shard_stopped around from b shard number s)
    stopped_in from b shard number b_is = active_well b shard _ (λ inside table t. by_awaits inside table t (awaits_stop from number (entry_of table shard)))
      where
        by_placed : IsShard shard → (o : Option Home) → IfThere HomeInRange o → AllOf IsSentWell (orders_placed around b shard o)
        by_placed inside None h = tt
        by_placed inside (Some home) h = (host_well b shard home b_is inside h, tt)

        by_awaits : IsShard shard → (table : ShardTable) → TableInRange table → (w : Bool)
            → TableInRange (with_entry table shard (if w then after_allotment (allotted (map (less_one from) (loads around table)) (freed (entry_of table shard))) (freed (entry_of table shard)) else entry_of table shard))
            × AllOf IsSentWell (orders_placed around b shard (if w then allotted (map (less_one from) (loads around table)) (freed (entry_of table shard)) else None))
        by_awaits inside table t true =
            let free = freed_in (entry_of table shard) (entry_in table t shard) in
            let h = allotted_in (map (less_one from) (loads around table)) (freed (entry_of table shard)) (less_in from (loads around table) (loads_well table)) in
            (put_in table shard _ t (placed_in (allotted (map (less_one from) (loads around table)) (freed (entry_of table shard))) (freed (entry_of table shard)) h free), by_placed inside _ h)
        by_awaits inside table t false = (put_in table shard (entry_of table shard) t (entry_in table t shard), tt)

    -- ---- in a tick
    pub noticed_in : (margin : ℕ) (settled : SettledView) (entry : ShardEntry) → EntryInRange entry → EntryInRange (noticed margin settled entry)
    noticed_in margin settled entry e = by_test (has_finished_home margin settled entry.home)
      where
        by_test : (b : Bool) → EntryInRange (if b then freed entry else record entry { waits = unfinished margin settled entry.waits })
        by_test true = freed_in entry e
        by_test false = record { last = e.last; home = e.home; waits = unfinished_in margin settled entry.waits e.waits }

    hurried_in : (entry : ShardEntry) → EntryInRange entry → EntryInRange (hurried entry)
    hurried_in entry e = by_test (is_holding entry.stage && how_many entry.waits == 0)
      where
        by_test : (b : Bool) → EntryInRange (if b then record entry { stage = stages.Leaving } else entry)
        by_test true = record { last = e.last; home = e.home; waits = e.waits }
        by_test false = e

    mapped_in : (f : ShardEntry → ShardEntry) → ((entry : ShardEntry) → EntryInRange entry → EntryInRange (f entry)) → (table : ShardTable) → TableInRange table → TableInRange (map f table)
    mapped_in f each table t = (subst (λ n. n ≤ 1000) (sym (map_many f table)) t.0, all_map EntryInRange EntryInRange f each table t.1)

    begun_in : (waits : UniqueSet) → AreUniques waits → (table : ShardTable) → TableInRange table → (o : Option ℕ) → TableInRange (with_begun waits table o)
    begun_in waits w table t None = t
    begun_in waits w table t (Some shard) = put_in table shard (begun waits (entry_of table shard)) t (let e = entry_in table t shard in record { last = e.last; home = e.home; waits = w })

    after_begin_in : (granted : UniqueSet) → AreUniques granted → (settled : SettledView) (margin threshold limit : ℕ) (table : ShardTable) → TableInRange table → TableInRange (after_begin granted settled margin threshold limit table)
    after_begin_in granted g settled margin threshold limit table t = by_test (nat_lt (moving table) limit)
      where
        by_test : (b : Bool) → TableInRange (if b then with_begun (unfinished margin settled granted) table (first_leaver granted (standings_of settled) threshold table) else table)
        by_test true = begun_in (unfinished margin settled granted) (unfinished_in margin settled granted g) table t (first_leaver granted (standings_of settled) threshold table)
        by_test false = t

    ticked_in : (table : ShardTable) → TableInRange table → TableInRange (ticked_table around table)
    ticked_in table t =
        let noticed_table = map (noticed around.settings.margin around.settled) table in
        mapped_in hurried hurried_in _
        (after_begin_in around.singleton.granted a.granted around.settled around.settings.margin around.settings.threshold around.settings.limit noticed_table
        (mapped_in (noticed around.settings.margin around.settled) (noticed_in around.settings.margin around.settled) table t))

    -- ---- what is ordered
    module _ (b : BallotModel) (b_is : IsBallot b) where
      begins_in : (shard number : ℕ) → IsShard shard → IsNumber number → (whos : List UniqueModel) → ((who : UniqueModel) → Contains whos who → IsUnique who) → AllOf IsSentWell (map (gives_order around b) (map (begin_order shard number) whos))
      begins_in shard number inside n_is [] each = tt
      begins_in shard number inside n_is (who ∷ whos) each =
          (sent_to around.me who (wire.TheVariants.BeginHandOff b shard number) a.me (each who (contains_first who whos)) refl (b_is, (inside, n_is)), begins_in shard number inside n_is whos (λ u there. each u (contains_rest who u whos there)))

      map_both : (xs ys : List Order) → AllOf IsSentWell (map (gives_order around b) xs) → AllOf IsSentWell (map (gives_order around b) ys) → AllOf IsSentWell (map (gives_order around b) (xs ++ ys))
      map_both [] ys x y = y
      map_both (o ∷ xs) ys x y = (x.0, map_both xs ys x.1 y)

      orders_at_in : (shard : ℕ) → IsShard shard → (entry : ShardEntry) → EntryInRange entry → (o : Option Home) → IfThere HomeInRange o → AllOf IsSentWell (map (gives_order around b) (orders_at shard entry o))
      orders_at_in shard inside entry e None h = tt
      orders_at_in shard inside entry e (Some home) h = by_stage entry.stage
        where
          by_started : (t : Bool) → AllOf IsSentWell (map (gives_order around b) (if t then [] else order.Host shard home.number home.owner ∷ []))
          by_started true = tt
          by_started false = (sent_to around.me home.owner (wire.TheVariants.HostShard b shard home.number) a.me h.owner refl (b_is, (inside, h.number)), tt)

          by_stage : (st : Stage) → AllOf IsSentWell (map (gives_order around b) (orders_to shard entry home st))
          by_stage stages.Still = by_started entry.started
          by_stage stages.Holding = begins_in shard home.number inside h.number (in_order entry.waits) (in_order_in entry.waits e.waits)
          by_stage stages.Leaving = (sent_to around.me home.owner (wire.TheVariants.HandOff b shard home.number) a.me h.owner refl (b_is, (inside, h.number)), tt)

      orders_in : (shard : ℕ) (entries : List ShardEntry) → shard + length entries ≤ 1000 → AllOf EntryInRange entries → AllOf IsSentWell (map (gives_order around b) (orders_from shard entries))
      orders_in shard [] few all = tt
      orders_in shard (entry ∷ entries) few all =
          map_both (orders_of shard entry) (orders_from (shard + 1) entries) (orders_at_in shard (omega (arith, few)) entry all.0 entry.home all.0.home) (orders_in (shard + 1) entries (omega (arith, few)) all.1)

    pub coordinates_in : GoesWell (coordinates around s)
    coordinates_in = by_phase (is_active around.singleton.phase)
      where
        by_live : (o : Option BallotModel) → IfThere IsBallot o → GoesWell (coordinates_with around o s)
        by_live None l = (k, tt)
        by_live (Some b) l = table_well (λ table. (ticked_table around table, map (gives_order around b) (orders_from 0 (ticked_table around table)))) (λ table t. let u = ticked_in table t in (u, orders_in b l 0 (ticked_table around table) (from_first (length (ticked_table around table)) u.0) u.1))

        by_phase : (t : Bool) → GoesWell (if t then coordinates_with around around.singleton.live s else nothing s)
        by_phase true = by_live around.singleton.live a.live
        by_phase false = (k, tt)

    -- ---- the table while the part in the singleton changes
    pub learns_in : (asking : Bool) (from : UniqueModel) (reports : List Report) → IsUnique from → AllOf ReportInRange reports → (o : Option ShardTable) → IfThere TableInRange o → IfThere TableInRange (learns_reports asking from reports o)
    learns_in asking from reports from_is r None t = tt
    learns_in asking from reports from_is r (Some table) t = learnt_all_in asking from reports table from_is r t
