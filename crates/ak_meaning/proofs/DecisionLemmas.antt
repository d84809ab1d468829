-- What a decision presupposes: somebody counts, and somebody else is lost.
use Rattle.std.proofs.Common.{◌≡◌, ◌≢◌, ℕ, Bool, true, not, ◌&&◌, ◌==◌, IsTrue, sym, ap, ◌∙◌, true≢false}
use Rattle.std.specs.Ordering.{is_eq}
use Rattle.std.specs.Cmp.{first_so, second_so}
use Rattle.ak_address.specs.Unique.{UniqueModel, unique_cmp}
use Rattle.ak_address.specs.Uniques.{has}
use Rattle.ak_address.proofs.Elements.{contains_at}
use Rattle.ak_address.proofs.TableLaws.{key_itself}
use Rattle.ak_member.specs.declared.status.Status.{Status}
use Rattle.ak_member.specs.declared.status.Status.TheVariants.{Down}
use Rattle.ak_member.specs.Age.{counts}
use Rattle.ak_member.specs.Standing.{members_of, is_down}
use Rattle.ak_member.proofs.MembersLaws.{members_have}
use Rattle.ak_membership.specs.declared.state.MembershipState.{MembershipState}
use Rattle.ak_membership.specs.Tick.{decides, stood, some_counts, is_lost, has_lost}
use Rattle.ak_node.specs.declared.node.State.{State}
use Rattle.ak_reach.specs.Unreachable.{unreachable_members}
use Rattle.ak_reach.proofs.ReachLemmas.{index_of_any}
use Rattle.ak_reach.proofs.UnreachableLaws.{unreachable_means}
use Rattle.ak_meaning.specs.Causes.{SomebodyCounts, SomebodyIsLost}

never_both : (b : Bool) → b ≡ true → not b ≢ true
never_both b is not_so = true≢false (sym not_so ∙ ap not is)

other_one : (who me : UniqueModel) → not (is_eq (unique_cmp who me)) ≡ true → who ≢ me
other_one who me other same = never_both (is_eq (unique_cmp who me)) (ap (λ u. is_eq (unique_cmp u me)) same ∙ key_itself me) other

not_down : (status : Status) → not (is_down status) ≡ true → status ≢ Down
not_down status up down = never_both (is_down status) (ap is_down down) up

module _ (n : State) where
  abbrev m : MembershipState
  m = n.membership

  somebody_counts : some_counts m.gossip.view.standings ≡ true → SomebodyCounts n
  somebody_counts is =
      let s = m.gossip.view.standings in
      let at = index_of_any (λ (k : UniqueModel × (Status × ℕ)). counts k.1.0) (members_of s) is in
      record { who = at.1.0; status = at.1.1.0; member = (at.1.1.1, members_have s at.1 (contains_at (members_of s) at.0 at.1 at.2)); counts = at.3 }

  somebody_lost : has_lost m ≡ true → SomebodyIsLost n
  somebody_lost is =
      let s = m.gossip.view.standings in
      let lost = unreachable_members m.gossip.view in
      let at = index_of_any (is_lost lost m.me) (members_of s) is in
      let who = at.1.0 in
      let status = at.1.1.0 in
      let other = not (is_eq (unique_cmp who m.me)) in
      let both = first_so (other && has lost who) (not (is_down status)) at.3 in
      record {
        who = who;
        other = other_one who m.me (first_so other (has lost who) both);
        status = status;
        member = (at.1.1.1, members_have s at.1 (contains_at (members_of s) at.0 at.1 at.2));
        not_down = not_down status (second_so (other && has lost who) (not (is_down status)) at.3);
        unreachable = (unreachable_means m.gossip.view who).0 (second_so other (has lost who) both);
      }

  pub decision_presupposes : IsTrue (decides m) → SomebodyCounts n × SomebodyIsLost n
  decision_presupposes is =
      let full = stood m == m.settings.stable in
      let some = some_counts m.gossip.view.standings in
      (somebody_counts (second_so full some (first_so (full && some) (has_lost m) is)), somebody_lost (second_so (full && some) (has_lost m) is))
