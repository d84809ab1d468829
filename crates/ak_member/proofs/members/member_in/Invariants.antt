use Rattle.std.proofs.Common.{◌≡◌, drop, slice_get}
use Rattle.std.specs.FinMap as map
use Rattle.ak_member.specs.Standing.{member_pairs}
use Rattle.ak_member.proofs.members.member_in.Given as goal

-- so many of the rows that are left come before the one that is wanted
abbrev pub invariant-pairs : goal.invariant-pairs
invariant-pairs l = slice_get (member_pairs (drop l.pair (map.entries l.members))) l.left ≡ slice_get (member_pairs (map.entries l.members)) l.index
