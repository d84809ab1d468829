-- Two views that have the same sight of a process show it alike, in words of members and observers.
use Rattle.std.proofs.Common.{◌≡◌, ℕ, Bool, Option, Some, None, is_some, option_map, refl, sym, ap, ◌∙◌, true≢false}
use Rattle.std.proofs.lemmas.Option.{same_Some}
use Rattle.std.specs.FinMap as map
use Rattle.ak_address.specs.Unique.{UniqueModel}
use Rattle.ak_address.specs.Uniques.{has}
use Rattle.ak_leader.specs.Led.{IsMemberWith}
use Rattle.ak_member.specs.declared.status.Status.{Status}
use Rattle.ak_member.specs.Standing.{member_of}
use Rattle.ak_member.specs.View.{View}
use Rattle.ak_sight.specs.Sight.{sight}
use Rattle.ak_reach.specs.Unreachable.{unreachable_members, IsUnreachable}
use Rattle.ak_reach.proofs.UnreachableLaws.{unreachable_means}
use Rattle.ak_meaning.specs.Standstill.{AreShownAlike}

module _ (v : View) (who : UniqueModel) where
  -- of a member a view shows its status, and whether it is unreachable
  member_shown : (status : Status) → IsMemberWith v.standings who status → sight v who ≡ Some (status, has (unreachable_members v) who)
  member_shown status member = ap (option_map (λ (m : Status × ℕ). (m.0, has (unreachable_members v) who))) member.1

  -- whom a view shows with a status is a member with it, and as unreachable or as reachable as it is shown
  shown_member : (status : Status) (lost : Bool) → sight v who ≡ Some (status, lost) → IsMemberWith v.standings who status × (has (unreachable_members v) who ≡ lost)
  shown_member status lost = by_member (member_of (map.get v.standings who)) refl
    where
      by_member : (o : Option (Status × ℕ)) → member_of (map.get v.standings who) ≡ o → option_map {U = Status × Bool} (λ (m : Status × ℕ). (m.0, has (unreachable_members v) who)) o ≡ Some (status, lost)
          → IsMemberWith v.standings who status × (has (unreachable_members v) who ≡ lost)
      by_member None at is = absurd (true≢false (sym (ap is_some is)))
      by_member (Some m) at is =
          let same = same_Some (m.0, has (unreachable_members v) who) (status, lost) is in
          ((m.1, at ∙ ap (λ (s : Status × Bool). Some (s.0, m.1)) same), ap (λ (s : Status × Bool). s.1) same)

module _ (v w : View) (who : UniqueModel) (same : sight v who ≡ sight w who) where
  -- the other view shows a member with the same status, and as reachable or as unreachable as it is
  shown_there : (status : Status) → IsMemberWith v.standings who status → IsMemberWith w.standings who status × (has (unreachable_members w) who ≡ has (unreachable_members v) who)
  shown_there status member = shown_member w who status (has (unreachable_members v) who) (sym same ∙ member_shown v who status member)

  reach_there : (status : Status) → IsMemberWith v.standings who status → IsUnreachable v who → IsUnreachable w who
  reach_there status member lost = (unreachable_means w who).0 ((shown_there status member).1 ∙ (unreachable_means v who).1 lost)

pub shown_alike : (v w : View) (who : UniqueModel) → sight v who ≡ sight w who → AreShownAlike v w who
shown_alike v w who same = record {
  status = λ status. (λ member. (shown_there v w who same status member).0, λ member. (shown_there w v who (sym same) status member).0);
  reach = λ status member. (reach_there v w who same status member, reach_there w v who (sym same) status (shown_there v w who same status member).0);
}
