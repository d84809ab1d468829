-- What is learnt of each shard, where shards are placed, and which stops are awaited.
use Rattle.std.proofs.Common.{◌≡◌, ◌↔◌, ◌⊎◌, ℕ, Bool, true, false, cond, ◌&&◌, ◌==◌, ◌+◌, ◌^◌, ◌<◌, ◌≤◌, List, [], ◌∷◌, length, length-set, set, get_or, get_or-set_same, get_or-set_other, Option, Some, None, is_some, unwrap_or, nat_lt, inl, inr, refl, sym, ap, ◌∙◌, subst, arith, true≢false}
use Rattle.std.specs.List.{filter, fold}
use Rattle.std.proofs.lemmas.Bool.{eqb-true, eq-eqb, ltb-true, ltb-false}
use Rattle.std.specs.Ordering.{is_eq}
use Rattle.ak_address.specs.Unique.{UniqueModel, unique_cmp}
use Rattle.ak_address.proofs.TableLaws.{key_itself, same_key}
use Rattle.ak_address.proofs.BoolLemmas.{both_true}
use Rattle.ak_allocation.specs.declared.load.Load.{Load}
use Rattle.ak_allocation.specs.Allocation.{lightest}
use Rattle.ak_allocation.specs.Meaning.{IsLightest}
use Rattle.ak_allocation.proofs.AllocationLaws.{lightest_is, nobody_without_loads}
use Rattle.ak_shard_id.specs.declared.report.Report.{Report}
use Rattle.ak_coordinator.specs.Table.{Home, ShardEntry, ShardTable}
use Rattle.ak_coordinator.specs.Entry.{unplaced, moves, is_home, learnt, allotted_to, allotted, awaits_stop}
use Rattle.ak_coordinator.specs.Coordinator.{entry_of, with_entry, learnt_all}
use Rattle.ak_coordinator.specs.Meaning.{learnt_of}

-- ---- what is learnt
abbrev learns : Bool → UniqueModel → ShardEntry → Report → ShardEntry
learns asking from known report = learnt asking from report known

abbrev reports_of : ℕ → List Report → List Report
reports_of shard reports = filter (λ (report : Report). report.shard == shard) reports

pub learnt_each : (asking : Bool) (from : UniqueModel) (reports : List Report) (table : ShardTable) (shard : ℕ) → shard < length table
    → entry_of (learnt_all asking from reports table) shard ≡ learnt_of asking from shard reports (entry_of table shard)
learnt_each asking from [] table shard lt = refl
learnt_each asking from (report ∷ reports) table shard lt =
    learnt_each asking from reports (set table report.shard new) shard (let many = length-set table report.shard new in omega arith)
    ∙ go (report.shard == shard) refl
  where
    new : ShardEntry
    new = learnt asking from report (entry_of table report.shard)

    go : (b : Bool) → (report.shard == shard) ≡ b
        → fold (learns asking from) (get_or (set table report.shard (learnt asking from report (entry_of table report.shard))) shard unplaced) (reports_of shard reports)
        ≡ fold (learns asking from) (entry_of table shard) (cond b (report ∷ reports_of shard reports) (reports_of shard reports))
    go true same =
        let at = eqb-true report.shard shard same in
        ap (λ known. fold (learns asking from) known (reports_of shard reports)) (
        ap (λ k. get_or (set table report.shard (learnt asking from report (entry_of table report.shard))) k unplaced) (sym at)
        ∙ get_or-set_same table report.shard _ unplaced (omega arith)
        ∙ ap (λ k. learnt asking from report (entry_of table k)) at
        )
    go false other =
        ap (λ known. fold (learns asking from) known (reports_of shard reports))
        (get_or-set_other table report.shard shard _ unplaced (λ at. true≢false (sym (eq-eqb report.shard shard (sym at)) ∙ other)))

pub learnt_many : (asking : Bool) (from : UniqueModel) (reports : List Report) (table : ShardTable) → length (learnt_all asking from reports table) ≡ length table
learnt_many asking from [] table = refl
learnt_many asking from (report ∷ reports) table =
    learnt_many asking from reports (with_entry table report.shard (learnt asking from report (entry_of table report.shard)))
    ∙ length-set table report.shard (learnt asking from report (entry_of table report.shard))

-- where with the reports that are left all are learnt, no shard came or went
pub learnt_as_many : (asking : Bool) (from : UniqueModel) (left reports : List Report) (now table : ShardTable) → learnt_all asking from left now ≡ learnt_all asking from reports table → length now ≡ length table
learnt_as_many asking from left reports now table same = sym (learnt_many asking from left now) ∙ ap length same ∙ learnt_many asking from reports table

-- ---- which stops are awaited
is_home_means : (from : UniqueModel) (number : ℕ) (home : Option Home) → (is_home from number home ≡ true) ↔ (home ≡ Some (record { owner = from; number = number }))
is_home_means from number None = (λ is. absurd (true≢false (sym is)), λ is. absurd (true≢false (sym (ap is_some is))))
is_home_means from number (Some home) = (forward, λ is. ap (is_home from number) is ∙ itself)
  where
    forward : (home.number == number && is_eq (unique_cmp home.owner from)) ≡ true → Some home ≡ Some (record { owner = from; number = number })
    forward is =
        let two = both_true (home.number == number) (is_eq (unique_cmp home.owner from)) is in
        let owner = same_key home.owner from two.1 in
        let number_is = eqb-true home.number number two.0 in
        λ i. Some (record { owner = owner i; number = number_is i })

    itself : (number == number && is_eq (unique_cmp from from)) ≡ true
    itself = ap (λ b. b && is_eq (unique_cmp from from)) (eq-eqb number number refl) ∙ key_itself from

pub awaited_means : (from : UniqueModel) (number : ℕ) (entry : ShardEntry) → (awaits_stop from number entry ≡ true) ↔ ((moves entry ≡ true) × (entry.home ≡ Some (record { owner = from; number = number })))
awaited_means from number entry = (
  λ is. let two = both_true (moves entry) (is_home from number entry.home) is in (two.0, (is_home_means from number entry.home).0 two.1),
  λ h. ap (λ b. b && is_home from number entry.home) h.0 ∙ (is_home_means from number entry.home).1 h.1,
)

-- ---- where shards are placed
abbrev IsAllotted : List Load → ShardEntry → Home → Type 0
IsAllotted loads entry home = ((load : Load) × IsLightest loads load × (home.owner ≡ load.unique)) × (home.number ≡ entry.last + 1) × (home.number ≤ 2 ^ 62)

pub allotted_is : (loads : List Load) (entry : ShardEntry) (home : Home) → allotted loads entry ≡ Some home → IsAllotted loads entry home
allotted_is loads entry home is = go (lightest loads) refl is
  where
    by_bound : (load : Load) → lightest loads ≡ Some load → (b : Bool) → nat_lt entry.last (2 ^ 62) ≡ b → cond b (Some (record { owner = load.unique; number = entry.last + 1 })) None ≡ Some home → IsAllotted loads entry home
    by_bound load least true lt is =
        subst (IsAllotted loads entry) (ap (λ o. unwrap_or o home) is) ((load, lightest_is loads load least, refl), refl, (let below = ltb-true _ _ lt in omega arith))
    by_bound load least false lt is = absurd (true≢false (sym (ap is_some is)))

    go : (o : Option Load) → lightest loads ≡ o → allotted_to entry.last o ≡ Some home → IsAllotted loads entry home
    go None least is = absurd (true≢false (sym (ap is_some is)))
    go (Some load) least is = by_bound load least (nat_lt entry.last (2 ^ 62)) refl is

pub allotted_nowhere : (loads : List Load) (entry : ShardEntry) → (allotted loads entry ≡ None) ↔ ((loads ≡ []) ⊎ (2 ^ 62 ≤ entry.last))
allotted_nowhere loads entry = (forward (lightest loads) refl, λ why. elim why [ inl none ↦ ap (λ ls. allotted ls entry) none | inr past ↦ at_bound past (lightest loads) ])
  where
    by_bound : (load : Load) → (b : Bool) → nat_lt entry.last (2 ^ 62) ≡ b → cond {A = Option Home} b (Some (record { owner = load.unique; number = entry.last + 1 })) None ≡ None → (loads ≡ []) ⊎ (2 ^ 62 ≤ entry.last)
    by_bound load true lt is = absurd (true≢false (ap is_some is))
    by_bound load false lt is = inr (ltb-false _ _ lt)

    forward : (o : Option Load) → lightest loads ≡ o → allotted_to entry.last o ≡ None → (loads ≡ []) ⊎ (2 ^ 62 ≤ entry.last)
    forward None least is = inl ((nobody_without_loads loads).0 least)
    forward (Some load) least is = by_bound load (nat_lt entry.last (2 ^ 62)) refl is

    past_bound : 2 ^ 62 ≤ entry.last → (b : Bool) → nat_lt entry.last (2 ^ 62) ≡ b → b ≡ false
    past_bound past true lt = let below = ltb-true _ _ lt in absurd (omega arith)
    past_bound past false lt = refl

    at_bound : 2 ^ 62 ≤ entry.last → (o : Option Load) → allotted_to entry.last o ≡ None
    at_bound past None = refl
    at_bound past (Some load) = ap (λ b. cond {A = Option Home} b (Some (record { owner = load.unique; number = entry.last + 1 })) None) (past_bound past (nat_lt entry.last (2 ^ 62)) refl)
