use Rattle.std.proofs.Common.{◌≡◌, drop}
use Rattle.std.specs.List.{fold, filter}
use Rattle.ak_address.specs.Uniques.{with_one, in_order}
use Rattle.ak_member.specs.Standing.{is_member}
use Rattle.ak_detector.proofs.detector.add_members.Given as goal

-- with those that are left, all are there
abbrev pub invariant-whos : goal.invariant-whos
invariant-whos l = fold with_one l.them (filter (is_member l.members) (drop l.index (in_order l.whos))) ≡ fold with_one l.fn.them (filter (is_member l.members) (in_order l.whos))
