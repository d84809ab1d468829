-- Whether a waiting member is Joining or WeaklyUp makes no difference to who counts, who is unreachable, whether a view is converged
-- or settled, who leads, and what the resolver decides and whom it downs.
use Rattle.std.proofs.Common.{◌≡◌, ℕ, ◌⊎◌, inl, inr, nat_le, true, ◌&&◌, IsTrue, ◌↔◌, List, Option, Some, None, is_some, option_map, sym, ap, ◌∙◌, true≢false}
use Rattle.std.proofs.lemmas.Option.{same_Some}
use Rattle.std.specs.Prelude as list
use Rattle.std.specs.FinMap as map
use Rattle.std.specs.List.{filter, list_all}
use Rattle.ak_address.specs.Distinct.{distinct}
use Rattle.ak_address.specs.Unique.{AddressModel, UniqueModel}
use Rattle.ak_address.specs.Uniques.{UniqueSet, set_of}
use Rattle.ak_converge.specs.Convergence.{IsOut, IsConverged, agrees, is_converged, is_settled}
use Rattle.ak_downing.specs.declared.decision.Decision.{Decision}
use Rattle.ak_downing.specs.Downing.{is_beside, decide, is_against, all_downed, downs}
use Rattle.ak_downing.proofs.RoleLaws.{decided_alike}
use Rattle.ak_leader.specs.Leader.{MayLead, IsLeader}
use Rattle.ak_leader.proofs.LedLaws.{waiting_not_counted}
use Rattle.ak_member.specs.declared.status.Status.{Status}
use Rattle.ak_member.specs.declared.status.Status.TheVariants.{Exiting, Down}
use Rattle.ak_member.specs.Age.{counted_pairs, has_role, role_pairs, role_addresses, IsCounted}
use Rattle.ak_member.specs.Standing.{member_of, members_of, is_waiting, is_member, members_with, all_members}
use Rattle.ak_member.specs.View.{View, RowTable}
use Rattle.ak_reach.specs.Reach.{unreachable}
use Rattle.ak_reach.specs.Unreachable.{observes, unreachable_members, IsUnreachable}
use Rattle.ak_settings.specs.declared.settings.Strategy.{Strategy}
use Rattle.ak_meaning.specs.Waiting.{AreAlikeBut}
use Rattle.ak_meaning.proofs.PlainMembers.{plain_member, plain_waiting, plain_pairs, plain_members, plain_counted, plain_uniques, plain_observers, plain_agree, plain_downed, same_plain_members}

pub turned : (v w : View) → AreAlikeBut v w → AreAlikeBut w v
turned v w a = record {
  rows = sym a.rows;
  each = λ who. elim (a.each who) [
    | inl same ↦ inl (sym same)
    | inr b ↦ inr (record { number = b.number; one = b.other; other = b.one; one_is = b.other_is; other_is = b.one_is; one_waits = b.other_waits; other_waits = b.one_waits })
  ];
}

waits_not : (status : Status) → is_waiting status ≡ true → (status ≡ Exiting) ⊎ (status ≡ Down) → ⊥
waits_not status waits (inl is) = true≢false (sym waits ∙ ap is_waiting is)
waits_not status waits (inr is) = true≢false (sym waits ∙ ap is_waiting is)

module _ (v w : View) (a : AreAlikeBut v w) where
  -- a member with a status that does not wait is the same in both
  same_of : (who : UniqueModel) (status : Status) (number : ℕ) → member_of (map.get v.standings who) ≡ Some (status, number) → (is_waiting status ≡ true → ⊥) → member_of (map.get w.standings who) ≡ Some (status, number)
  same_of who status number at no_wait = elim (a.each who) [
    | inl same ↦ sym same ∙ at
    | inr b ↦ absurd (no_wait (ap (λ (m : Status × ℕ). is_waiting m.0) (same_Some (status, number) (b.one, b.number) (sym at ∙ b.one_is)) ∙ b.one_waits))
  ]

  counted : (who : UniqueModel) (number : ℕ) → IsCounted v.standings who number → IsCounted w.standings who number
  counted who number c = (c.0, same_of who c.0 number c.1 (λ waits. true≢false (sym c.2 ∙ waiting_not_counted c.0 waits)), c.2)

  member_there : (who : UniqueModel) → IsTrue (is_member v.standings who) → IsTrue (is_member w.standings who)
  member_there who is = elim (a.each who) [ inl same ↦ ap is_some (sym same) ∙ is | inr b ↦ ap is_some b.other_is ]

  lost : (who : UniqueModel) → IsUnreachable v who → IsUnreachable w who
  lost who u = elim (a.each u.observer) [
    | inl same ↦ record {
      member = member_there who u.member;
      observer = u.observer;
      status = u.status;
      number = u.number;
      observer_is = sym same ∙ u.observer_is;
      not_down = u.not_down;
      row = u.row;
      row_is = ap (λ (r : RowTable). map.get r u.observer) (sym a.rows) ∙ u.row_is;
      in_row = u.in_row;
    }
    | inr b ↦ record {
      member = member_there who u.member;
      observer = u.observer;
      status = b.other;
      number = b.number;
      observer_is = b.other_is;
      not_down = λ is. waits_not b.other b.other_waits (inr is);
      row = u.row;
      row_is = ap (λ (r : RowTable). map.get r u.observer) (sym a.rows) ∙ u.row_is;
      in_row = u.in_row;
    }
  ]

  out : (who : UniqueModel) → IsOut v.standings who → IsOut w.standings who
  out who o = (o.0, o.1, same_of who o.0 o.1 o.2 (λ waits. waits_not o.0 waits o.3), o.3)

module _ (v w : View) (a : AreAlikeBut v w) where
  abbrev back : AreAlikeBut w v
  back = turned v w a

  pub count_alike : (who : UniqueModel) (number : ℕ) → IsCounted v.standings who number ↔ IsCounted w.standings who number
  count_alike who number = (counted v w a who number, counted w v back who number)

  pub reach_alike : (who : UniqueModel) → IsUnreachable v who ↔ IsUnreachable w who
  reach_alike who = (lost v w a who, lost w v back who)

  converged_there : (seen : UniqueSet) → IsConverged v seen → IsConverged w seen
  converged_there seen c = record {
    counted_seen = λ who number there. c.counted_seen who number (counted w v back who number there);
    unreachable_out = λ who gone. out v w a who (c.unreachable_out who (lost w v back who gone));
  }

  may_there : (who : UniqueModel) → MayLead v who → MayLead w who
  may_there who may = (may.0, counted v w a who may.0 may.1, λ gone. may.2 (lost w v back who gone))

module _ (v w : View) (a : AreAlikeBut v w) where
  pub converge_alike : (seen : UniqueSet) → IsConverged v seen ↔ IsConverged w seen
  converge_alike seen = (converged_there v w a seen, converged_there w v (turned v w a) seen)

  leader_there : (o : Option UniqueModel) → IsLeader v o → IsLeader w o
  leader_there None is = λ who may. is who (may_there w v (turned v w a) who may)
  leader_there (Some who) is = (may_there v w a who is.0, λ other may. is.1 other (may_there w v (turned v w a) other may))

pub lead_alike : (v w : View) → AreAlikeBut v w → (o : Option UniqueModel) → IsLeader v o ↔ IsLeader w o
lead_alike v w a o = (leader_there v w a o, leader_there w v (turned v w a) o)

-- ---- what is computed from the lists of the members
module _ (v w : View) (a : AreAlikeBut v w) where
  same_members : plain_members v.standings ≡ plain_members w.standings
  same_members = same_plain_members v.standings w.standings (λ who. elim (a.each who) [
    | inl same ↦ ap (option_map plain_member) same
    | inr b ↦ ap (option_map plain_member) b.one_is ∙ (λ i. Some ((plain_waiting b.one b.one_waits ∙ sym (plain_waiting b.other b.other_waits)) i, b.number)) ∙ sym (ap (option_map plain_member) b.other_is)
  ])

  -- what is the same of a view's members when each WeaklyUp one is shown as Joining, is the same of both
  of_members : {X : Type 0} (f : List (UniqueModel × (Status × ℕ)) → X) → ((ms : List (UniqueModel × (Status × ℕ))) → f (plain_pairs ms) ≡ f ms) → f (members_of v.standings) ≡ f (members_of w.standings)
  of_members f plainly = sym (plainly (members_of v.standings)) ∙ ap f same_members ∙ plainly (members_of w.standings)

  same_pairs : counted_pairs (members_of v.standings) ≡ counted_pairs (members_of w.standings)
  same_pairs = of_members counted_pairs plain_counted

  same_all : all_members v.standings ≡ all_members w.standings
  same_all = ap set_of (of_members (list.map (λ (m : UniqueModel × (Status × ℕ)). m.0)) plain_uniques)

  same_observers : members_with observes v.standings ≡ members_with observes w.standings
  same_observers = ap set_of (of_members (λ ms. list.map (λ (m : UniqueModel × (Status × ℕ)). m.0) (filter (λ (m : UniqueModel × (Status × ℕ)). observes m.1.0) ms)) plain_observers)

  same_lost : unreachable_members v ≡ unreachable_members w
  same_lost = λ i. unreachable (a.rows i) (same_observers i) (same_all i)

  -- the counted ones that have the role, and their addresses
  same_role : (role : List AddressModel) → role_pairs role (members_of v.standings) ≡ role_pairs role (members_of w.standings)
  same_role role = ap (filter (has_role role)) same_pairs

  same_addresses : (role : List AddressModel) → role_addresses role v.standings ≡ role_addresses role w.standings
  same_addresses role = ap (list.map (λ (pair : UniqueModel × ℕ). pair.0.address)) (same_role role)

  same_converged : (seen : UniqueSet) → is_converged v seen ≡ is_converged w seen
  same_converged seen = of_members (list_all (agrees (unreachable_members v) seen)) (plain_agree (unreachable_members v) seen) ∙ ap (λ lost. list_all (agrees lost seen) (members_of w.standings)) same_lost

  pub settle_alike : (quorum : ℕ) (role : List AddressModel) (seen : UniqueSet) → is_settled quorum role v seen ≡ is_settled quorum role w seen
  settle_alike quorum role seen = λ i. same_converged seen i && nat_le quorum (distinct (same_addresses role i))

  -- ---- the resolver
  pub decide_alike : (strategy : Strategy) (role : List AddressModel) (me : UniqueModel) → decide strategy role v me ≡ decide strategy role w me
  decide_alike strategy role me = decided_alike role v w me (same_role role) (λ pair there. ap (λ lost. is_beside lost me pair.0) same_lost) strategy

  pub down_alike : (decided : Decision) (me : UniqueModel) → downs decided v me ≡ downs decided w me
  down_alike decided me =
      of_members (all_downed (is_against decided (unreachable_members v) me)) (plain_downed (is_against decided (unreachable_members v) me))
      ∙ ap (λ lost. all_downed (is_against decided lost me) (members_of w.standings)) same_lost
