-- Homes that are no members are forgotten once.
use Rattle.std.proofs.Common.{◌≡◌, Bool, true, false, List, [], ◌∷◌, map, Option, None, Some, if◌then◌else◌, refl, ap}
use Rattle.ak_address.specs.Unique.{UniqueModel}
use Rattle.ak_member.specs.Standing.{Standings, is_member}
use Rattle.ak_region.specs.Shards.{ShardSlot}
use Rattle.ak_region.specs.Slot.{member_home, without_stranger}
use Rattle.ak_region.specs.RegionModel.{RegionModel}
use Rattle.ak_region.specs.Region.{after_forget}

home_once : (s : Standings) (o : Option UniqueModel) → member_home s (member_home s o) ≡ member_home s o
home_once s None = refl
home_once s (Some home) = by_member (is_member s home) refl
  where
    by_member : (b : Bool) → is_member s home ≡ b → member_home s (if b then Some home else None) ≡ (if b then Some home else None)
    by_member true is = ap (λ b. if b then Some home else None) is
    by_member false none = refl

slots_once : (s : Standings) (slots : List ShardSlot) → map (without_stranger s) (map (without_stranger s) slots) ≡ map (without_stranger s) slots
slots_once s [] = refl
slots_once s (slot ∷ slots) = λ i. record slot { home = home_once s slot.home i } ∷ slots_once s slots i

pub forgets_once : (s : Standings) (region : RegionModel) → after_forget s (after_forget s region) ≡ after_forget s region
forgets_once s region = ap (λ (l : List ShardSlot). record region { slots = l }) (slots_once s region.slots)
