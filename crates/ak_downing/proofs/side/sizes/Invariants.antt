use Rattle.std.proofs.Common.{◌≡◌, ◌+◌, ◌≤◌, not, length, drop}
use Rattle.std.specs.FinMap as map
use Rattle.std.specs.List.{filter}
use Rattle.ak_member.proofs.CountedLaws.{role_among}
use Rattle.ak_downing.specs.Downing.{counted_beside, counted_apart}
use Rattle.ak_downing.specs.Sides.{seen_with}
use Rattle.ak_downing.proofs.SideLemmas.{beside_pair}
use Rattle.ak_downing.proofs.side.sizes.Given as goal

-- those so far, and those of the pairs that are left
abbrev pub invariant-pairs : goal.invariant-pairs
invariant-pairs l = record {
  few : l.beside ≤ l.pair;
  few_others : l.others ≤ l.pair;
  so_far : l.beside + length (filter (beside_pair (seen_with l.members l.rows) l.me) (role_among l.role (drop l.pair (map.entries l.members)))) ≡ length (counted_beside l.role (seen_with l.members l.rows) l.me);
  others_so_far : l.others + length (filter (λ pair. not (beside_pair (seen_with l.members l.rows) l.me pair)) (role_among l.role (drop l.pair (map.entries l.members)))) ≡ length (counted_apart l.role (seen_with l.members l.rows) l.me);
}
