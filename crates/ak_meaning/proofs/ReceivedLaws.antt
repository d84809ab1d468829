-- Whatever comes of an accepted gossip, the version is the merge, and the receiver has seen what is new.
use Rattle.std.proofs.Common.{◌≡◌, max, Bool, true, false, if◌then◌else◌, nat_lt, Ok, Err, is_some, IsTrue, refl, sym, ap, ◌∙◌, subst, arith, true≢false}
use Rattle.std.proofs.lemmas.Option.{same_Some}
use Rattle.std.specs.FinMap as map
use Rattle.std.specs.Result.{is_ok, result_ok}
use Rattle.ak_address.specs.Unique.{UniqueModel}
use Rattle.ak_address.specs.Uniques.{UniqueSet, has, with_one}
use Rattle.ak_address.proofs.TableLaws.{get-insert_here}
use Rattle.ak_clock.specs.Version.{Counts, count, covers, Covers, relation, relation_by}
use Rattle.ak_clock.proofs.VersionLaws.{count-merged, covers_from_test, test_from_covers}
use Rattle.ak_gossip.specs.declared.gossip.GossipFault.{GossipFault}
use Rattle.ak_gossip.specs.declared.gossip.Received.{Received}
use Rattle.ak_gossip.specs.Gossip.{GossipState, most_uniques, accepted, marked_seen, same, seen_by, both, receive}
use Rattle.ak_member.specs.Standing.{is_member, merged_standings}
use Rattle.ak_meaning.specs.Receiving.{AreMerged}

module _ (me : UniqueModel) (own incoming : GossipState) where
  -- the node's own mark changes no version, and is set where the node is a member
  mark_version : (g : GossipState) → (seen_by me g).version ≡ g.version
  mark_version g = by_case (is_member g.view.standings me)
    where
      by_case : (b : Bool) → (if b then record g { seen = with_one g.seen me } else g).version ≡ g.version
      by_case true = refl
      by_case false = refl

  marked : (g : GossipState) → IsTrue (is_member (seen_by me g).view.standings me) → IsTrue (has (seen_by me g).seen me)
  marked g = by_case (is_member g.view.standings me) refl
    where
      inserted : (s : UniqueSet) → has (with_one s me) me ≡ true
      inserted s = ap is_some (get-insert_here s me tt)

      by_case : (b : Bool) → is_member g.view.standings me ≡ b → IsTrue (is_member (if b then record g { seen = with_one g.seen me } else g).view.standings me) → IsTrue (has (if b then record g { seen = with_one g.seen me } else g).seen me)
      by_case true is member = inserted g.seen
      by_case false is member = absurd (true≢false (sym member ∙ is))

  -- the greater of two counts, of which one covers the other
  first_greater : (v w : Counts) → Covers v w → (u : UniqueModel) → count v u ≡ max (count v u) (count w u)
  first_greater v w above u = let le = above u in omega arith

  second_greater : (v w : Counts) → Covers w v → (u : UniqueModel) → count w u ≡ max (count v u) (count w u)
  second_greater v w above u = let le = above u in omega arith

  not_covered : (v w : Counts) → covers v w ≡ false → ¬ Covers v w
  not_covered v w is above = true≢false (sym (test_from_covers v w above) ∙ is)

  by_tests : (a b : Bool) → covers own.version incoming.version ≡ a → covers incoming.version own.version ≡ b
      → AreMerged me own incoming (marked_seen me (accepted (relation_by a b) own incoming)).0 (marked_seen me (accepted (relation_by a b) own incoming)).1
  by_tests true true p q = record {
    version = λ u. ap (λ v. count v u) (mark_version (same own incoming)) ∙ first_greater own.version incoming.version (covers_from_test own.version incoming.version p) u;
    is_older = (λ is. absurd cc, λ is. absurd (is.1 (covers_from_test incoming.version own.version q)));
    older = λ is. absurd cc;
    seen = λ new member. marked (same own incoming) member;
  }
  by_tests true false p q = record {
    version = λ u. first_greater own.version incoming.version (covers_from_test own.version incoming.version p) u;
    is_older = (λ is. (covers_from_test own.version incoming.version p, not_covered incoming.version own.version q), λ is. refl);
    older = λ is. refl;
    seen = λ new member. absurd (new refl);
  }
  by_tests false true p q = record {
    version = λ u. ap (λ v. count v u) (mark_version incoming) ∙ second_greater own.version incoming.version (covers_from_test incoming.version own.version q) u;
    is_older = (λ is. absurd cc, λ is. absurd (not_covered own.version incoming.version p is.0));
    older = λ is. absurd cc;
    seen = λ new member. marked incoming member;
  }
  by_tests false false p q = record {
    version = λ u. ap (λ v. count v u) (mark_version (both own incoming)) ∙ count-merged own.version incoming.version u;
    is_older = (λ is. absurd cc, λ is. absurd (not_covered own.version incoming.version p is.0));
    older = λ is. absurd cc;
    seen = λ new member. marked (both own incoming) member;
  }

  passed : (a b : Bool) (why other : GossipFault) (x r : Received × GossipState) → (if a then Err why else (if b then Err other else Ok x)) ≡ Ok r → x ≡ r
  passed true b why other x r is = absurd (true≢false (sym (ap is_ok is)))
  passed false true why other x r is = absurd (true≢false (sym (ap is_ok is)))
  passed false false why other x r is = same_Some x r (ap result_ok is)

  received_is : (r : Received × GossipState) → receive me own incoming ≡ Ok r → marked_seen me (accepted (relation own.version incoming.version) own incoming) ≡ r
  received_is r is = passed (nat_lt (count own.version me) (count incoming.version me)) (nat_lt most_uniques (map.len (merged_standings own.view.standings incoming.view.standings))) _ _ _ r is

  pub accepted_merges : (result : Received) (known : GossipState) → receive me own incoming ≡ Ok (result, known) → AreMerged me own incoming result known
  accepted_merges result known is =
      subst (λ (r : Received × GossipState). AreMerged me own incoming r.0 r.1) (received_is (result, known) is)
      (by_tests (covers own.version incoming.version) (covers incoming.version own.version) refl refl)
