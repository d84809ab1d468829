-- The reports of a region, exactly and in order.
use Rattle.std.proofs.Common.{◌≡◌, ◌↔◌, ℕ, zero, suc, Bool, true, false, cond, ◌==◌, ◌+◌, ◌<◌, List, [], ◌∷◌, ◌++◌, length, get_or, Contains, slice_get, Option, Some, is_some, unwrap_or, inl, inr, refl, sym, ap, ◌∙◌, subst, arith, true≢false}
use Rattle.std.proofs.lemmas.Bool.{eqb-true}
use Rattle.ak_address.proofs.Elements.{contains_first, contains_rest, first_or_rest, contains_nothing, contains_at}
use Rattle.ak_shard_id.specs.declared.report.Report.{Report}
use Rattle.ak_region.specs.Shards.{ShardSlot}
use Rattle.ak_region.specs.Slot.{untold}
use Rattle.ak_region.specs.RegionModel.{RegionModel}
use Rattle.ak_region.specs.Region.{reports_from, reports}
use Rattle.ak_region.specs.Reported.{IsReported}

-- what a report says of its slot
record IsOf (slot : ShardSlot) (report : Report) : Type 0 where
  told : 0 < report.number
  marked : report.number ≡ slot.mark
  hosted : report.hosted ≡ is_some slot.hosted

-- it is the report of one of the slots, of which the first is of a shard
record IsFrom (start : ℕ) (slots : List ShardSlot) (report : Report) : Type 0 where
  index : ℕ
  within : index < length slots
  shard : report.shard ≡ start + index
  is_of : IsOf (get_or slots index untold) report

abbrev told_report : ℕ → ShardSlot → Report
told_report start slot = record { shard = start; number = slot.mark; hosted = is_some slot.hosted }

later : (start : ℕ) (slot : ShardSlot) (slots : List ShardSlot) (report : Report) → IsFrom (start + 1) slots report → IsFrom start (slot ∷ slots) report
later start slot slots report f = record { index = suc f.index; within = let lt = f.within in omega arith; shard = let s = f.shard in omega arith; is_of = f.is_of }

positive : (n : ℕ) → (n == 0) ≡ false → 0 < n
positive zero is = absurd (true≢false is)
positive (suc n) is = omega arith

from_there : (start : ℕ) (slots : List ShardSlot) (report : Report) → Contains (reports_from start slots) report → IsFrom start slots report
from_there start [] report there = absurd (contains_nothing report there)
from_there start (slot ∷ slots) report there = go (slot.mark == 0) refl (from_there (start + 1) slots report) there
  where
    go : (b : Bool) → (slot.mark == 0) ≡ b → (Contains (reports_from (start + 1) slots) report → IsFrom (start + 1) slots report)
        → Contains (cond b [] (told_report start slot ∷ []) ++ reports_from (start + 1) slots) report → IsFrom start (slot ∷ slots) report
    go true none rest there = later start slot slots report (rest there)
    go false some rest there = elim (first_or_rest (told_report start slot) report (reports_from (start + 1) slots) there) [
      | inl same ↦ record {
        index = zero;
        within = omega arith;
        shard = ap (λ r. r.shard) same ∙ (omega arith);
        is_of = record {
          told = let lt = positive slot.mark some in let is = ap (λ (r : Report). r.number) same in omega arith;
          marked = ap (λ r. r.number) same;
          hosted = ap (λ r. r.hosted) same;
        };
      }
      | inr after ↦ later start slot slots report (rest after)
    ]

in_there : (start : ℕ) (slots : List ShardSlot) (report : Report) (index : ℕ) → index < length slots → report.shard ≡ start + index → IsOf (get_or slots index untold) report
    → Contains (reports_from start slots) report
in_there start [] report index lt shard is = absurd (omega arith)
in_there start (slot ∷ slots) report zero lt shard is = go (slot.mark == 0) refl
  where
    told_is : told_report start slot ≡ report
    told_is = λ i. record {
      shard = (let e : start ≡ report.shard = omega arith in e) i;
      number = sym is.marked i;
      hosted = sym is.hosted i;
    }

    go : (b : Bool) → (slot.mark == 0) ≡ b → Contains (cond b [] (told_report start slot ∷ []) ++ reports_from (start + 1) slots) report
    go true none = let zero_is = eqb-true slot.mark 0 none in let lt = is.told in let m = is.marked in absurd (omega arith)
    go false some = subst (Contains (told_report start slot ∷ reports_from (start + 1) slots)) told_is (contains_first (told_report start slot) (reports_from (start + 1) slots))
in_there start (slot ∷ slots) report (suc index) lt shard is = go (slot.mark == 0) (in_there (start + 1) slots report index (omega arith) (omega arith) is)
  where
    go : (b : Bool) → Contains (reports_from (start + 1) slots) report → Contains (cond b [] (told_report start slot ∷ []) ++ reports_from (start + 1) slots) report
    go true there = there
    go false there = contains_rest (told_report start slot) report (reports_from (start + 1) slots) there

pub exactly_reported : (region : RegionModel) (report : Report) → Contains (reports region) report ↔ IsReported region report
exactly_reported region report = (
  λ there. let f = from_there 0 region.slots report there in
      let at : f.index ≡ report.shard = let s = f.shard in omega arith in
      record {
        within = let lt = f.within in omega arith;
        told = f.is_of.told;
        marked = f.is_of.marked ∙ ap (λ k. (get_or region.slots k untold).mark) at;
        hosted = f.is_of.hosted ∙ ap (λ k. is_some (get_or region.slots k untold).hosted) at;
      },
  λ r. in_there 0 region.slots report report.shard r.within (omega arith) (record { told = r.told; marked = r.marked; hosted = r.hosted }),
)

rising_from : (start : ℕ) (slots : List ShardSlot) (i j : ℕ) (a b : Report) → i < j → slice_get (reports_from start slots) i ≡ Some a → slice_get (reports_from start slots) j ≡ Some b → a.shard < b.shard
rising_from start [] i j a b lt at there = absurd (true≢false (sym (ap is_some at)))
rising_from start (slot ∷ slots) i j a b lt at there = go (slot.mark == 0) (rising_from (start + 1) slots) i j lt at there
  where
    go : (c : Bool) → ((i j : ℕ) (a b : Report) → i < j → slice_get (reports_from (start + 1) slots) i ≡ Some a → slice_get (reports_from (start + 1) slots) j ≡ Some b → a.shard < b.shard)
        → (i j : ℕ) → i < j → slice_get (cond c [] (told_report start slot ∷ []) ++ reports_from (start + 1) slots) i ≡ Some a
        → slice_get (cond c [] (told_report start slot ∷ []) ++ reports_from (start + 1) slots) j ≡ Some b → a.shard < b.shard
    go true rest i j lt at there = rest i j a b lt at there
    go false rest zero zero lt at there = absurd (omega arith)
    go false rest zero (suc j) lt at there =
        let first : a.shard ≡ start = ap (λ (o : Option Report). (unwrap_or o a).shard) (sym at) in
        let f = from_there (start + 1) slots b (contains_at (reports_from (start + 1) slots) j b there) in
        let s = f.shard in omega arith
    go false rest (suc i) zero lt at there = absurd (omega arith)
    go false rest (suc i) (suc j) lt at there = rest i j a b (omega arith) at there

pub rising_reports : (region : RegionModel) (i j : ℕ) (a b : Report) → i < j → slice_get (reports region) i ≡ Some a → slice_get (reports region) j ≡ Some b → a.shard < b.shard
rising_reports region i j a b lt at there = rising_from 0 region.slots i j a b lt at there
