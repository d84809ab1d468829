-- What the tests of versions and reports mean.
use Rattle.std.proofs.Common.{◌≡◌, ◌↔◌, inl, inr, ℕ, zero, suc, ◌+◌, ◌<◌, ◌≤◌, Bool, true, ◌&&◌, nat_le, IsTrue, List, [], ◌∷◌, length, slice_get, Option, Some, None, refl, sym, ap, subst, ◌∙◌, arith}
use Rattle.std.specs.FinMap as map
use Rattle.std.specs.List.{AllByRecursion}
use Rattle.std.proofs.lemmas.Bool.Decides.{nat_tests}
use Rattle.std.proofs.lemmas.Bool.{cases_lt, and_from}
use Rattle.std.proofs.lemmas.Option.{same_Some}
use Rattle.ak_address.specs.Unique.{UniqueModel, IsUnique}
use Rattle.ak_address.proofs.BoolLemmas.{both_true, none_there}
use Rattle.ak_clock.specs.declared.version.TheConstants.{BOUND}
use Rattle.ak_clock.specs.Version.{Counts}
use Rattle.ak_shard_id.specs.declared.report.Report.{Report}
use Rattle.ak_field.specs.Ranges.{is_from, IsNumber}
use Rattle.ak_field.specs.Lists.{is_later, AllAfter, IsShort, IsReport, AreReports}
use Rattle.ak_gossip.specs.declared.part.Part.{Part}
use Rattle.ak_gossip.specs.Parts.{AreParts}
use Rattle.ak_field.specs.Parts.{AreSpelled}
use Rattle.ak_field.specs.Walk.{report_passes, reports_pass}
use Rattle.ak_field.proofs.Whole.{in_range, range_of}

-- ---- one more
pub so_far : {X : Type 0} (xs : List X) (P : X → Type 0) (n : ℕ) (here : X) → ((i : ℕ) (x : X) → i < n → slice_get xs i ≡ Some x → P x) → slice_get xs n ≡ Some here → P here → (i : ℕ) (x : X) → i < n + 1 → slice_get xs i ≡ Some x → P x
so_far {X} xs P n here before at holds i x lt is = elim (cases_lt i n) [
  | inl less ↦ before i x less is
  | inr le ↦ let same : i ≡ n = omega (arith, le, lt) in subst P (same_Some here x (sym at ∙ ap (slice_get xs) (sym same) ∙ is)) holds
]

-- ---- versions
abbrev Holds : UniqueModel × ℕ → Type 0
Holds pair = IsUnique pair.0 × IsNumber pair.1

abbrev Everywhere : List (UniqueModel × ℕ) → Type 0
Everywhere es = (i : ℕ) (pair : UniqueModel × ℕ) → slice_get es i ≡ Some pair → Holds pair

one_by_one : (es : List (UniqueModel × ℕ)) → Everywhere es → AllByRecursion Holds es
one_by_one [] all = tt
one_by_one (e ∷ es) all = (all 0 e refl, one_by_one es (λ i pair at. all (suc i) pair at))

everywhere : (es : List (UniqueModel × ℕ)) → AllByRecursion Holds es → Everywhere es
everywhere [] each i pair at = absurd (none_there pair at)
everywhere (e ∷ es) each zero pair at = subst Holds (same_Some e pair at) each.0
everywhere (e ∷ es) each (suc i) pair at = everywhere es each.1 i pair at

pub is_short_when : (v : Counts) (b : Bool) → map.len v ≤ 128 → (IsTrue b ↔ Everywhere (map.entries v)) → IsTrue b ↔ IsShort v
is_short_when v b few is = (λ h. record { few = few; each = one_by_one (map.entries v) (is.0 h) }, λ short. is.1 (everywhere (map.entries v) short.each))

-- ---- reports
at_most : (a b : ℕ) → nat_le a b ≡ true → a ≤ b
at_most a b e = grind (arith, nat_tests)

is_at_most : (a b : ℕ) → a ≤ b → nat_le a b ≡ true
is_at_most a b le = grind (arith, nat_tests)

report_of : (last : Option Report) (r : Report) → report_passes last r ≡ true → IsReport last r
report_of last r e =
    let a = both_true (nat_le r.shard 999) (is_from 1 BOUND r.number && is_later last r.shard) e in
    let b = both_true (is_from 1 BOUND r.number) (is_later last r.shard) a.1 in
    let c = range_of 1 BOUND r.number b.0 in
    record { shard = at_most r.shard 999 a.0; later = b.1; number = record { some = c.0; bounded = c.1 } }

of_report : (last : Option Report) (r : Report) → IsReport last r → report_passes last r ≡ true
of_report last r is =
    and_from _ _ (is_at_most r.shard 999 is.shard) (and_from _ _ (in_range 1 BOUND r.number is.number.some is.number.bounded) is.later)

reports_of : (last : Option Report) (rs : List Report) → reports_pass last rs ≡ true → AllAfter IsReport last rs
reports_of last [] e = tt
reports_of last (r ∷ rs) e =
    let a = both_true (report_passes last r) (reports_pass (Some r) rs) e in
    (report_of last r a.0, reports_of (Some r) rs a.1)

of_reports : (last : Option Report) (rs : List Report) → AllAfter IsReport last rs → reports_pass last rs ≡ true
of_reports last [] each = refl
of_reports last (r ∷ rs) each = and_from _ _ (of_report last r each.0) (of_reports (Some r) rs each.1)

pub are_reports_when : (rs : List Report) (b : Bool) → length rs ≤ 1000 → b ≡ reports_pass None rs → IsTrue b ↔ AreReports rs
are_reports_when rs b few is = (λ h. record { few = few; each = reports_of None rs (sym is ∙ h) }, λ are. is ∙ of_reports None rs are.each)

-- ---- parts
abbrev pub HaveProcesses : List Part → Type 0
HaveProcesses list = (i : ℕ) (p : Part) → slice_get list i ≡ Some p → IsUnique p.unique

all_unique : (list : List Part) → HaveProcesses list → AllByRecursion (λ (p : Part). IsUnique p.unique) list
all_unique [] all = tt
all_unique (x ∷ list) all = (all 0 x refl, all_unique list (λ i p at. all (suc i) p at))

unique_all : (list : List Part) → AllByRecursion (λ (p : Part). IsUnique p.unique) list → HaveProcesses list
unique_all [] each i p at = absurd (none_there p at)
unique_all (x ∷ list) each zero p at = subst (λ (q : Part). IsUnique q.unique) (same_Some x p at) each.0
unique_all (x ∷ list) each (suc i) p at = unique_all list each.1 i p at

pub are_parts_when : (list : List Part) (b : Bool) → AreParts list → (IsTrue b ↔ HaveProcesses list) → IsTrue b ↔ AreSpelled list
are_parts_when list b are is = (λ h. record { parts = are; uniques = all_unique list (is.0 h) }, λ s. is.1 (unique_all list s.uniques))
