-- Versions and reports are read as they are spelled.
use Rattle.std.proofs.Common.{◌≡◌, ℕ, ◌^◌, ◌<◌, Bool, true, false, ◌&&◌, T, IsTrue, List, [], ◌∷◌, ◌++◌, length, slice_get, Option, Some, None, option_map, Ok, refl, sym, ap, subst, ◌∙◌, arith}
use Rattle.std.specs.FinMap as map
use Rattle.std.specs.FinMap.Entries.{is_sorted, below_all}
use Rattle.std.specs.Int.{w16}
use Rattle.std.specs.List.{AllByRecursion, flat_map}
use Rattle.std.specs.Ordering.{is_lt}
use Rattle.std.specs.declared.cmp.Ordering.TheVariants.{Less}
use Rattle.ak_address.specs.Unique.{UniqueModel, IsUnique, unique_cmp}
use Rattle.ak_address.proofs.OrderLemmas.{unique_total, less_of}
use Rattle.ak_address.proofs.Pairs.{below_at, first, second}
use Rattle.ak_clock.specs.declared.version.TheConstants.{BOUND}
use Rattle.ak_shard_id.specs.declared.report.Report.{Report}
use Rattle.ak_gossip.specs.PartsWalk.{is_above}
use Rattle.ak_field.specs.declared.fault.WireFault.TheVariants.{Count, Order}
use Rattle.ak_field.specs.Reading.{◌>>=◌, wide_at, checked, items_at}
use Rattle.ak_field.specs.Ranges.{is_from, IsNumber, IsShard}
use Rattle.ak_field.specs.Spelling.{byte, two_bytes, eight_bytes, process, shard, flag, counted, version, report, reports}
use Rattle.ak_field.specs.Fields.{length_at, number_at, shard_at, flag_at, unique_at}
use Rattle.ak_field.specs.Lists.{next_unique_at, counted_at, counts_at, version_at, is_later, report_at, report_count_at, reports_at, AllAfter, IsShort, IsReport, AreReports}
use Rattle.ak_field.specs.Laws.{IsField}
use Rattle.ak_field.proofs.Combined.{checked_field, made_field, first_field}
use Rattle.ak_field.proofs.Small.{wide16, wide_field}
use Rattle.ak_field.proofs.Whole.{Ranges, in_range, range_of, length_field, number_field, shard_field, flag_field, unique_field}
use Rattle.ak_field.proofs.Items.{items_field}
use Rattle.ak_field.proofs.Versions.{who, made_again}

-- ---- the next process
pub next_unique_field : (last : Option UniqueModel) → IsField (next_unique_at last) process (λ u. IsUnique u × IsTrue (is_above last u))
unfolding next_unique_at
next_unique_field last =
    checked_field Order (is_above last) unique_at process IsUnique (λ u. IsUnique u × IsTrue (is_above last u)) unique_field (λ u v. v) (λ u is above. (is, above))

-- ---- versions
pub record IsCounted (last : Option (UniqueModel × ℕ)) (pair : UniqueModel × ℕ) : Type 0 where
  pub unique : IsUnique pair.0
  pub above : IsTrue (is_above (option_map who last) pair.0)
  pub number : IsNumber pair.1

pub counted_field : (last : Option (UniqueModel × ℕ)) → IsField (counted_at last) counted (IsCounted last)
unfolding counted_at
counted_field last =
    let One : UniqueModel → Type 0 = λ u. IsUnique u × IsTrue (is_above (option_map who last) u) in
    let After : UniqueModel → UniqueModel × ℕ → Type 0 = λ u pair. (pair.0 ≡ u) × Ranges 1 BOUND pair.1 in
    let rest : (u : UniqueModel) → One u → IsField (λ bytes. number_at 1 BOUND bytes >>= λ n. Ok ((u, n.0), n.1)) (λ pair. eight_bytes pair.1) (After u) =
    (λ u one. made_field (number_at 1 BOUND) eight_bytes (Ranges 1 BOUND) (λ n. (u, n)) (λ pair. pair.1) (After u) (number_field 1 BOUND (omega arith))
    (λ pair v. (v.1, ap (λ (w : UniqueModel). (w, pair.1)) (sym v.0)))
    (λ n range fits. (refl, (refl, range)))) in
    first_field (next_unique_at (option_map who last)) process One who (λ u bytes. number_at 1 BOUND bytes >>= λ n. Ok ((u, n.0), n.1)) (λ pair. eight_bytes pair.1) After (IsCounted last)
    (next_unique_field (option_map who last)) rest
    (λ pair is. ((is.unique, is.above), (refl, (is.number.some, is.number.bounded))))
    (λ u pair one v. (v.0, subst (λ (w : UniqueModel). One w → IsCounted last pair) v.0 (λ o. record { unique = o.0; above = o.1; number = record { some = v.1.0; bounded = v.1.1 } }) one))

both_true : (a b : Bool) → T a → T b → T (a && b)
both_true true b p q = q
both_true false b p q = p

is_less : (u v : UniqueModel) → unique_cmp u v ≡ Less → T (is_lt (unique_cmp u v))
is_less u v e = subst (λ o. T (is_lt o)) (sym e) tt

below_chain : (k : UniqueModel) (last : UniqueModel × ℕ) (es : List (UniqueModel × ℕ)) → ((u : UniqueModel) → unique_cmp last.0 u ≡ Less → unique_cmp k u ≡ Less) → AllAfter IsCounted (Some last) es → T (below_all unique_cmp k es)
below_chain k last [] under chain = tt
below_chain k last (e ∷ es) under chain =
    let here : unique_cmp k e.0 ≡ Less = under e.0 (less_of _ chain.0.above) in
    both_true _ _ (is_less k e.0 here) (below_chain k e es (λ u lt. unique_total.trans k e.0 u here lt) chain.1)

sorted_chain : (last : Option (UniqueModel × ℕ)) (es : List (UniqueModel × ℕ)) → AllAfter IsCounted last es → T (is_sorted unique_cmp es)
sorted_chain last [] chain = tt
sorted_chain last (e ∷ es) chain = both_true _ _ (below_chain e.0 e es (λ u lt. lt) chain.1) (sorted_chain (Some e) es chain.1)

abbrev Each : List (UniqueModel × ℕ) → Type 0
Each es = AllByRecursion (λ (pair : UniqueModel × ℕ). IsUnique pair.0 × IsNumber pair.1) es

chained : (last : Option (UniqueModel × ℕ)) (es : List (UniqueModel × ℕ)) → ((e : UniqueModel × ℕ) → slice_get es 0 ≡ Some e → IsTrue (is_above (option_map who last) e.0)) → T (is_sorted unique_cmp es) → Each es → AllAfter IsCounted last es
chained last [] above sorted each = tt
chained last (e ∷ es) above sorted each = (
  record { unique = each.0.0; above = above e refl; number = each.0.1 },
  chained (Some e) es (λ f at. ap is_lt (below_at unique_cmp unique_total e.0 es 0 f (first _ _ sorted) at)) (second _ _ sorted) each.1,
)

each_of : (last : Option (UniqueModel × ℕ)) (es : List (UniqueModel × ℕ)) → AllAfter IsCounted last es → Each es
each_of last [] chain = tt
each_of last (e ∷ es) chain = ((chain.0.unique, chain.0.number), each_of (Some e) es chain.1)

not_any : (e : UniqueModel × ℕ) → IsTrue (is_above (option_map who None) e.0)
not_any e = refl

counts_field : (many : ℕ) → IsField (counts_at many) (λ v. flat_map counted (map.entries v)) (λ v. (map.len v ≡ many) × Each (map.entries v))
unfolding counts_at
counts_field many =
    made_field (items_at counted_at None many) (flat_map counted) (λ es. (length es ≡ many) × AllAfter IsCounted None es) map.from_sorted map.entries (λ v. (map.len v ≡ many) × Each (map.entries v))
    (items_field counted_at counted IsCounted counted_field many None)
    (λ v valid. ((sym (map.len-entries v) ∙ valid.0, chained None (map.entries v) (λ e at. not_any e) (map.entries_sorted v) valid.1), made_again v))
    (λ es chain fits.
    let back : map.entries (map.from_sorted es) ≡ es = map.entries-from_sorted unique_cmp es (sorted_chain None es chain.1) in
    (back, (map.len-entries (map.from_sorted es) ∙ ap length back ∙ chain.0, subst Each (sym back) (each_of None es chain.1))))

pub version_field : IsField version_at version IsShort
unfolding version_at
version_field =
    first_field (length_at 0 128) byte (Ranges 0 128) map.len counts_at (λ v. flat_map counted (map.entries v)) (λ many v. (map.len v ≡ many) × Each (map.entries v)) IsShort
    (length_field 0 128 (omega arith)) (λ many range. counts_field many)
    (λ v is. ((omega arith, is.few), (refl, is.each)))
    (λ many v range valid. (valid.0, record { few = omega (arith, valid.0, range.1); each = valid.1 }))

-- ---- reports
remade : (r : Report) (s n : ℕ) → r.shard ≡ s → r.number ≡ n → record { shard = s; number = n; hosted = r.hosted } ≡ r
remade r s n a b = rw (← a, ← b) refl

pub report_field : (last : Option Report) → IsField (report_at last) report (IsReport last)
unfolding report_at
report_field last =
    let One : ℕ → Type 0 = λ s. IsShard s × IsTrue (is_later last s) in
    let Two : ℕ → Report → Type 0 = λ s r. (r.shard ≡ s) × Ranges 1 BOUND r.number in
    let Three : ℕ → ℕ → Report → Type 0 = λ s n r. (r.shard ≡ s) × (r.number ≡ n) in
    let ends : (s n : ℕ) → IsField (λ bytes. flag_at bytes >>= λ hosted. Ok (record { shard = s; number = n; hosted = hosted.0 }, hosted.1)) (λ r. flag r.hosted) (Three s n) =
    (λ s n. made_field flag_at flag (λ _. Unit {0}) (λ h. record { shard = s; number = n; hosted = h }) (λ r. r.hosted) (Three s n) flag_field
    (λ r v. (tt, remade r s n v.0 v.1))
    (λ h _ fits. (refl, (refl, refl)))) in
    let middle : (s : ℕ) → IsField (λ bytes. number_at 1 BOUND bytes >>= λ number. flag_at number.1 >>= λ hosted. Ok (record { shard = s; number = number.0; hosted = hosted.0 }, hosted.1)) (λ r. eight_bytes r.number ++ flag r.hosted) (Two s) =
    (λ s. first_field (number_at 1 BOUND) eight_bytes (Ranges 1 BOUND) (λ r. r.number) (λ n bytes. flag_at bytes >>= λ hosted. Ok (record { shard = s; number = n; hosted = hosted.0 }, hosted.1)) (λ r. flag r.hosted) (Three s) (Two s)
    (number_field 1 BOUND (omega arith)) (λ n range. ends s n)
    (λ r v. (v.1, (v.0, refl)))
    (λ n r range v. (v.1, (v.0, (omega (arith, v.1, range.0), omega (arith, v.1, range.1)))))) in
    first_field (λ bytes. checked Order (is_later last) (shard_at bytes)) shard One (λ r. r.shard) (λ s bytes. number_at 1 BOUND bytes >>= λ number. flag_at number.1 >>= λ hosted. Ok (record { shard = s; number = number.0; hosted = hosted.0 }, hosted.1)) (λ r. eight_bytes r.number ++ flag r.hosted) Two (IsReport last)
    (checked_field Order (is_later last) shard_at shard IsShard One shard_field (λ s v. v) (λ s is later. (is, later)))
    (λ s one. middle s)
    (λ r is. ((is.shard, is.later), (refl, (is.number.some, is.number.bounded))))
    (λ s r one v. (v.0, subst (λ (n : ℕ). One n → IsReport last r) v.0 (λ o. record { shard = o.0; later = o.1; number = record { some = v.1.0; bounded = v.1.1 } }) one))

report_count_field : IsField report_count_at two_bytes (Ranges 0 1000)
unfolding report_count_at
report_count_field =
    checked_field Count (is_from 0 1000) (wide_at w16) two_bytes (λ n. n < 2 ^ 16) (Ranges 0 1000) (wide_field w16 (2 ^ 16) wide16)
    (λ n v. (omega (arith, v.1), in_range 0 1000 n v.0 v.1))
    (λ n lt e. range_of 0 1000 n e)

pub reports_field : IsField reports_at reports AreReports
unfolding reports_at
reports_field =
    first_field report_count_at two_bytes (Ranges 0 1000) length (λ many bytes. items_at report_at None many bytes) (flat_map report) (λ many rs. (length rs ≡ many) × AllAfter IsReport None rs) AreReports
    report_count_field (λ many range. items_field report_at report IsReport report_field many None)
    (λ rs are. ((omega arith, are.few), (refl, are.each)))
    (λ many rs range valid. (valid.0, record { few = omega (arith, valid.0, range.1); each = valid.1 }))
