-- Views come to one in any order and grouping, and what effects add to one of two views, or to both, they add to the merge.
use Rattle.std.proofs.Common.{◌≡◌, ◌≢◌, Bool, true, false, cond, List, [], ◌∷◌, Option, Some, refl, sym, ap, ◌∙◌, subst}
use Rattle.std.specs.Option.{IsSome}
use Rattle.std.specs.Ordering.{eq_by_cmp}
use Rattle.std.specs.FinMap as map
use Rattle.ak_address.specs.Unique.{UniqueModel, unique_cmp}
use Rattle.ak_address.specs.Table.{merged_at, value_with}
use Rattle.ak_address.proofs.TableLaws.{get-insert, get-merged_tables}
use Rattle.ak_member.specs.declared.effect.Effect.{Effect}
use Rattle.ak_member.specs.declared.effect.Effect.TheVariants.{Joined, Rise, Removed, Observed}
use Rattle.ak_member.specs.declared.standing.Standing.{Standing}
use Rattle.ak_member.specs.Standing.{Standings, merged_standing, merged_standings, known}
use Rattle.ak_member.specs.View.{RowTable, View, later_row, merged_rows, merged_views, after_effect, after_effects, IsAboutKnown, RowsAgree}
use Rattle.ak_member.proofs.Merges.{merged_commutative, merged_associative, merged_idempotent, merged_either_way, known_to_one, known_to_both, get-with_known_here, get-with_known_elsewhere}
use Rattle.ak_member.proofs.StandingLaws.{standing_commutative, standing_associative, standing_idempotent, row_commutative, row_associative, row_idempotent}

-- ---- members
pub get-merged_standings : (s t : Standings) (who : UniqueModel) → map.get (merged_standings s t) who ≡ merged_at merged_standing (map.get s who) (map.get t who)
get-merged_standings s t who = get-merged_tables merged_standing s t who

pub standings_commutative : (s t : Standings) → merged_standings s t ≡ merged_standings t s
standings_commutative s t = merged_commutative merged_standing standing_commutative s t

pub standings_associative : (s t u : Standings) → merged_standings (merged_standings s t) u ≡ merged_standings s (merged_standings t u)
standings_associative s t u = merged_associative merged_standing standing_associative s t u

pub standings_idempotent : (s : Standings) → merged_standings s s ≡ s
standings_idempotent s = merged_idempotent merged_standing standing_idempotent s

-- ---- rows
pub rows_commutative : (rows others : RowTable) → RowsAgree rows others → merged_rows rows others ≡ merged_rows others rows
rows_commutative rows others agree = merged_either_way later_row rows others (λ q r p is other. row_commutative r p (agree q r p is other))

pub rows_associative : (l m n : RowTable) → merged_rows (merged_rows l m) n ≡ merged_rows l (merged_rows m n)
rows_associative l m n = merged_associative later_row row_associative l m n

pub rows_idempotent : (rows : RowTable) → merged_rows rows rows ≡ rows
rows_idempotent rows = merged_idempotent later_row row_idempotent rows

-- ---- views
pub views_idempotent : (v : View) → merged_views v v ≡ v
views_idempotent v = λ i. record { standings = standings_idempotent v.standings i; rows = rows_idempotent v.rows i }

pub views_associative : (u v w : View) → merged_views (merged_views u v) w ≡ merged_views u (merged_views v w)
views_associative u v w = λ i. record { standings = standings_associative u.standings v.standings w.standings i; rows = rows_associative u.rows v.rows w.rows i }

pub views_commutative : (v w : View) → RowsAgree v.rows w.rows → merged_views v w ≡ merged_views w v
views_commutative v w agree = λ i. record { standings = standings_commutative v.standings w.standings i; rows = rows_commutative v.rows w.rows agree i }

-- ---- effects
pub get-known_here : (s : Standings) (who : UniqueModel) (x : Standing) → map.get (known s who x) who ≡ Some (value_with merged_standing (map.get s who) x)
get-known_here s who x = get-with_known_here merged_standing s who x

pub get-known_elsewhere : (s : Standings) (who other : UniqueModel) (x : Standing) → other ≢ who → map.get (known s who x) other ≡ map.get s other
get-known_elsewhere s who other x apart = get-with_known_elsewhere merged_standing s who other x apart

-- one standing more of a process
pub known_merges_one : (s t : Standings) (who : UniqueModel) (x : Standing) → known (merged_standings s t) who x ≡ merged_standings (known s who x) t
known_merges_one s t who x = known_to_one merged_standing standing_commutative standing_associative s t who x

pub known_merges_both : (s t : Standings) (who : UniqueModel) (x : Standing) → known (merged_standings s t) who x ≡ merged_standings (known s who x) (known t who x)
known_merges_both s t who x = known_to_both merged_standing standing_commutative standing_associative standing_idempotent s t who x

pub effect_merges_one : (effect : Effect) (s t : Standings) → after_effect effect (merged_standings s t) ≡ merged_standings (after_effect effect s) t
effect_merges_one (Joined who) s t = known_merges_one s t who _
effect_merges_one (Rise who status number) s t = known_merges_one s t who _
effect_merges_one (Removed who confirmed) s t = known_merges_one s t who _
effect_merges_one (Observed subjects) s t = refl

pub effect_merges_both : (effect : Effect) (s t : Standings) → after_effect effect (merged_standings s t) ≡ merged_standings (after_effect effect s) (after_effect effect t)
effect_merges_both (Joined who) s t = known_merges_both s t who _
effect_merges_both (Rise who status number) s t = known_merges_both s t who _
effect_merges_both (Removed who confirmed) s t = known_merges_both s t who _
effect_merges_both (Observed subjects) s t = refl

pub effects_merge_one : (effects : List Effect) (s t : Standings) → after_effects effects (merged_standings s t) ≡ merged_standings (after_effects effects s) t
effects_merge_one [] s t = refl
effects_merge_one (effect ∷ effects) s t = ap (after_effects effects) (effect_merges_one effect s t) ∙ effects_merge_one effects (after_effect effect s) t

pub effects_merge_both : (effects : List Effect) (s t : Standings) → after_effects effects (merged_standings s t) ≡ merged_standings (after_effects effects s) (after_effects effects t)
effects_merge_both [] s t = refl
effects_merge_both (effect ∷ effects) s t = ap (after_effects effects) (effect_merges_both effect s t) ∙ effects_merge_both effects (after_effect effect s) (after_effect effect t)

-- whoever is known stays known
still_there : (b : Bool) (x : Standing) (o : Option Standing) → IsSome o → IsSome (cond b (Some x) o)
still_there true x o there = refl
still_there false x o there = there

stays_known : (s : Standings) (who : UniqueModel) (x : Standing) (q : UniqueModel) → IsSome (map.get s q) → IsSome (map.get (known s who x) q)
stays_known s who x q there =
    subst IsSome (sym (get-insert s who (value_with merged_standing (map.get s who) x) q)) (still_there (eq_by_cmp unique_cmp q who) _ (map.get s q) there)

stays_after : (effect : Effect) (s : Standings) (q : UniqueModel) → IsSome (map.get s q) → IsSome (map.get (after_effect effect s) q)
stays_after (Joined who) s q there = stays_known s who _ q there
stays_after (Rise who status number) s q there = stays_known s who _ q there
stays_after (Removed who confirmed) s q there = stays_known s who _ q there
stays_after (Observed subjects) s q there = there

pub stays_about_known : (effect other : Effect) (s : Standings) → IsAboutKnown s other → IsAboutKnown (after_effect effect s) other
stays_about_known effect (Joined who) s there = stays_after effect s who there
stays_about_known effect (Rise who status number) s there = stays_after effect s who there
stays_about_known effect (Removed who confirmed) s there = stays_after effect s who there
stays_about_known effect (Observed subjects) s there = there
