use Rattle.std.proofs.Common.{◌≡◌, drop}
use Rattle.std.specs.List.{list_all}
use Rattle.ak_member.specs.Standing.{is_member}
use Rattle.ak_region.proofs.homes.are_members.Given as goal

-- those before the index are members, and all stay as they were
abbrev pub invariant-homes : goal.invariant-homes
invariant-homes l = (l.homes ≡ l.initial.homes) × (list_all (is_member l.members) l.initial.homes ≡ list_all (is_member l.members) (drop l.home-index l.initial.homes))
