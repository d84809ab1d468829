-- Who has seen a gossip after one with the same version came, and that joins may be admitted.
use Rattle.std.proofs.Common.{◌≡◌, ◌≢◌, ◌⊎◌, inl, inr, ◌↔◌, ◌<◌, Bool, true, false, ◌&&◌, if◌then◌else◌, IsTrue, [], ◌∷◌, Option, Some, None, is_some, refl, sym, ap, ◌∙◌, subst, arith, true≢false}
use Rattle.std.proofs.lemmas.Option.{same_Some}
use Rattle.std.proofs.lemmas.Bool.{and_from, or_left, or_right}
use Rattle.std.specs.FinMap as map
use Rattle.std.specs.Ordering.{eq_by_cmp}
use Rattle.std.specs.Cmp.{first_so, second_so}
use Rattle.ak_address.specs.Unique.{UniqueModel, unique_cmp}
use Rattle.ak_address.specs.Uniques.{UniqueSet, has, with_one, those, union}
use Rattle.ak_address.specs.Table.{value_with}
use Rattle.ak_address.proofs.TableLaws.{key_itself, same_key, same_or_apart, get-insert_here, get-insert_elsewhere}
use Rattle.ak_address.proofs.UniquesLaws.{has-with_one, has-those, has-union}
use Rattle.ak_address.proofs.BoolLemmas.{none_there, or_either}
use Rattle.ak_clock.specs.declared.version.TheConstants.{BOUND}
use Rattle.ak_clock.specs.Version.{count}
use Rattle.ak_member.specs.declared.effect.Effect.TheVariants.{Joined}
use Rattle.ak_member.specs.declared.standing.Standing.{Standing}
use Rattle.ak_member.specs.declared.standing.Standing.TheVariants.{Member, Buried}
use Rattle.ak_member.specs.declared.status.Status.TheVariants.{Joining}
use Rattle.ak_member.specs.Standing.{Standings, merged_standing, member_of, is_member}
use Rattle.ak_gossip.specs.Gossip.{GossipState, most_uniques, IsStanding, IsGossip, MayUpdate, seen_by, same}
use Rattle.ak_gossip.proofs.InvariantLemmas.{standing_with}
use Rattle.ak_gossip.proofs.SeenLemmas.{len-insert-most}

module _ (me : UniqueModel) (own incoming : GossipState) (who : UniqueModel) where
  abbrev there : UniqueSet
  there = those incoming.seen (is_member own.view.standings)

  abbrev Seen : Type 0
  Seen = IsTrue (has own.seen who) ⊎ (IsTrue (has incoming.seen who) × IsTrue (is_member own.view.standings who)) ⊎ ((who ≡ me) × IsTrue (is_member own.view.standings me))

  from_same : IsTrue (has (union own.seen there) who) → Seen
  from_same h = elim (or_either (has own.seen who) (has there who) (sym (has-union own.seen there who) ∙ h)) [
    | inl here ↦ inl here
    | inr other ↦
        let is : (has incoming.seen who && is_member own.view.standings who) ≡ true = sym (has-those incoming.seen (is_member own.view.standings) who) ∙ other in
        inr (inl (first_so (has incoming.seen who) (is_member own.view.standings who) is, second_so (has incoming.seen who) (is_member own.view.standings who) is))
  ]

  to_same : IsTrue (has own.seen who) ⊎ (IsTrue (has incoming.seen who) × IsTrue (is_member own.view.standings who)) → IsTrue (has (union own.seen there) who)
  to_same (inl here) = has-union own.seen there who ∙ or_left (has own.seen who) (has there who) here
  to_same (inr other) =
      has-union own.seen there who
      ∙ or_right (has own.seen who) (has there who) (has-those incoming.seen (is_member own.view.standings) who ∙ and_from (has incoming.seen who) (is_member own.view.standings who) other.0 other.1)

  seen_from : (b : Bool) → is_member own.view.standings me ≡ b → IsTrue (has (if b then record (same own incoming) { seen = with_one (union own.seen there) me } else same own incoming).seen who) → Seen
  seen_from true is h = elim (or_either (eq_by_cmp unique_cmp who me) (has (union own.seen there) who) (sym (has-with_one (union own.seen there) me who) ∙ h)) [
    | inl tied ↦ inr (inr (same_key who me tied, is))
    | inr before ↦ from_same before
  ]
  seen_from false is h = from_same h

  with_before : (b : Bool) → IsTrue (has (union own.seen there) who) → IsTrue (has (if b then record (same own incoming) { seen = with_one (union own.seen there) me } else same own incoming).seen who)
  with_before true h = has-with_one (union own.seen there) me who ∙ or_right (eq_by_cmp unique_cmp who me) (has (union own.seen there) who) h
  with_before false h = h

  with_me : (b : Bool) → is_member own.view.standings me ≡ b → who ≡ me → IsTrue (is_member own.view.standings me) → IsTrue (has (if b then record (same own incoming) { seen = with_one (union own.seen there) me } else same own incoming).seen who)
  with_me true is self member =
      has-with_one (union own.seen there) me who ∙ or_left (eq_by_cmp unique_cmp who me) (has (union own.seen there) who) (ap (λ k. eq_by_cmp unique_cmp k me) self ∙ key_itself me)
  with_me false is self member = absurd (true≢false (sym member ∙ is))

  seen_to : Seen → IsTrue (has (seen_by me (same own incoming)).seen who)
  seen_to (inl here) = with_before (is_member own.view.standings me) (to_same (inl here))
  seen_to (inr (inl other)) = with_before (is_member own.view.standings me) (to_same (inr other))
  seen_to (inr (inr self)) = with_me (is_member own.view.standings me) refl self.0 self.1

  pub same_seen : IsTrue (has (seen_by me (same own incoming)).seen who) ↔ (IsTrue (has own.seen who) ⊎ (IsTrue (has incoming.seen who) × IsTrue (is_member own.view.standings who)) ⊎ ((who ≡ me) × IsTrue (is_member own.view.standings me)))
  same_seen = (seen_from (is_member own.view.standings me) refl, seen_to)

-- ---- a process that joins
-- a member that is raised is a member, and so is one that was not known
member_with : (a : Option Standing) (x : Standing) → is_some (member_of (Some x)) ≡ true → (is_some (member_of a) ≡ true) ⊎ (a ≡ None) → is_some (member_of (Some (value_with merged_standing a x))) ≡ true
member_with None x member is = member
member_with (Some (Member status n)) (Member other m) member is = refl
member_with (Some (Member status n)) (Buried confirmed) member is = member
member_with (Some (Buried confirmed)) x member (inl wrong) = absurd (true≢false (sym wrong))
member_with (Some (Buried confirmed)) x member (inr none) = absurd (true≢false (ap is_some none))

module _ (author who : UniqueModel) (g : GossipState) where
  -- what is known then of the process that joins, and of all
  abbrev value : Standing
  value = value_with merged_standing (map.get g.view.standings who) (Member Joining 0)

  abbrev later : Standings
  later = map.insert g.view.standings who value

  abbrev May : Type 0
  May = IsTrue (is_member g.view.standings author) ⊎ ((who ≡ author) × (map.get g.view.standings author ≡ None))

  as_who : author ≡ who → May → (is_some (member_of (map.get g.view.standings who)) ≡ true) ⊎ (map.get g.view.standings who ≡ None)
  as_who same (inl member) = inl (subst (λ k. IsTrue (is_member g.view.standings k)) same member)
  as_who same (inr joins) = inr (subst (λ k. map.get g.view.standings k ≡ None) same joins.1)

  as_author : author ≢ who → May → IsTrue (is_member g.view.standings author)
  as_author apart (inl member) = member
  as_author apart (inr joins) = absurd (apart (sym joins.0))

  pub joining : IsGossip g → count g.version author < BOUND → (IsTrue (is_member g.view.standings author) ⊎ ((who ≡ author) × (map.get g.view.standings author ≡ None))) → map.len g.view.standings < most_uniques → MayUpdate author (Joined who ∷ []) g
  joining p room by few = record {
    below_bound = room;
    stays = elim (same_or_apart author who) [
      | inl equal ↦ subst (λ k. IsTrue (is_member later k)) (sym equal) (ap (λ o. is_some (member_of o)) (get-insert_here g.view.standings who value) ∙ member_with (map.get g.view.standings who) (Member Joining 0) refl (as_who equal by))
      | inr apart ↦ ap (λ o. is_some (member_of o)) (get-insert_elsewhere g.view.standings who value author apart) ∙ as_author apart by
    ];
    subjects = λ subjects subject is in_them. absurd (none_there subjects is);
    standings = λ other standing is. elim (same_or_apart other who) [
      | inl equal ↦
          let here : value ≡ standing = same_Some value standing (sym (get-insert_here g.view.standings who value) ∙ subst (λ k. map.get later k ≡ Some standing) equal is) in
          subst IsStanding here (standing_with (map.get g.view.standings who) (Member Joining 0) (p.standings who) refl)
      | inr apart ↦ p.standings other standing (sym (get-insert_elsewhere g.view.standings who value other apart) ∙ is)
    ];
    few = omega (arith, few, len-insert-most g.view.standings who value);
  }
