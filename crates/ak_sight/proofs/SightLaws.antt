-- What it means that a view moved, and what a gossip that is accepted moves.
use Rattle.std.proofs.Common.{◌≡◌, ℕ, Bool, true, false, not, ◌&&◌, ◌||◌, List, [], ◌∷◌, if◌then◌else◌, Option, Some, None, Ok, Err, refl, sym, ap, ◌∙◌, true≢false, nat_lt}
use Rattle.std.proofs.lemmas.Bool.{eq-eqb}
use Rattle.std.proofs.lemmas.Option.{same_Some}
use Rattle.std.specs.Result.{is_ok, result_ok}
use Rattle.std.specs.List.{list_any}
use Rattle.std.specs.FinMap as map
use Rattle.ak_address.specs.Unique.{UniqueModel}
use Rattle.ak_address.specs.Uniques.{with_one}
use Rattle.ak_clock.specs.Version.{count, relation}
use Rattle.ak_clock.specs.declared.version.Relation.{Relation}
use Rattle.ak_clock.specs.declared.version.Relation.TheVariants as clock
use Rattle.ak_member.specs.declared.status.Status.{Status}
use Rattle.ak_member.specs.Standing.{members_of, rank, merged_standings, is_member}
use Rattle.ak_member.specs.View.{View}
use Rattle.ak_gossip.specs.declared.gossip.Received.{Received}
use Rattle.ak_gossip.specs.declared.gossip.GossipFault.{GossipFault}
use Rattle.ak_gossip.specs.Gossip.{GossipState, most_uniques, accepted, marked_seen, same, seen_by, receive}
use Rattle.ak_sight.specs.Sight.{sight, is_same_reach, is_same_sight, is_otherwise, has_moved, is_news}

-- ---- the same sight
reach_itself : (b : Bool) → is_same_reach b b ≡ true
reach_itself true = refl
reach_itself false = refl

pub sight_itself : (o : Option (Status × Bool)) → is_same_sight o o ≡ true
sight_itself None = refl
sight_itself (Some (status, lost)) = (λ i. eq-eqb (rank status) (rank status) refl i && reach_itself lost i)

itself_alike : (v : View) (who : UniqueModel) → is_otherwise v v who ≡ false
itself_alike v who = ap not (sight_itself (sight v who))

none_otherwise : (v : View) (ms : List (UniqueModel × (Status × ℕ))) → list_any (λ m. is_otherwise v v m.0) ms ≡ false
none_otherwise v [] = refl
none_otherwise v (m ∷ ms) = λ i. itself_alike v m.0 i || none_otherwise v ms i

-- a view that stays the same does not move
pub stays_still : (v w : View) → w ≡ v → has_moved v w ≡ false
stays_still v w same = ap (has_moved v) same ∙ (λ i. none_otherwise v (members_of v.standings) i || none_otherwise v (members_of v.standings) i)

-- ---- a gossip that is accepted
module _ (me : UniqueModel) (own incoming : GossipState) where
  by_tests : (a b : Bool) (why other : GossipFault) (x r : Received × GossipState) → (if a then Err why else (if b then Err other else Ok x)) ≡ Ok r → x ≡ r
  by_tests true b why other x r is = absurd (true≢false (sym (ap is_ok is)))
  by_tests false true why other x r is = absurd (true≢false (sym (ap is_ok is)))
  by_tests false false why other x r is = same_Some x r (ap result_ok is)

  pub received_is : (r : Received × GossipState) → receive me own incoming ≡ Ok r → marked_seen me (accepted (relation own.version incoming.version) own incoming) ≡ r
  received_is r is = by_tests (nat_lt (count own.version me) (count incoming.version me)) (nat_lt most_uniques (map.len (merged_standings own.view.standings incoming.view.standings))) _ _ _ r is

  pub seen_view : (g : GossipState) → (seen_by me g).view ≡ g.view
  seen_view g = by_case (is_member g.view.standings me)
    where
      by_case : (b : Bool) → (if b then record g { seen = with_one g.seen me } else g).view ≡ g.view
      by_case true = refl
      by_case false = refl

  -- the view stays, unless what came is news
  view_stays : (r : Relation) → is_news (marked_seen me (accepted r own incoming)).0 ≡ false → (marked_seen me (accepted r own incoming)).1.view ≡ own.view
  view_stays clock.Same is = seen_view (same own incoming)
  view_stays clock.Before is = absurd (true≢false is)
  view_stays clock.After is = refl
  view_stays clock.Concurrent is = absurd (true≢false is)

  pub no_news : (r : Received × GossipState) → receive me own incoming ≡ Ok r → is_news r.0 ≡ false → r.1.view ≡ own.view
  no_news r is none =
      let here = received_is r is in
      ap (λ (x : Received × GossipState). x.1.view) (sym here) ∙ view_stays (relation own.version incoming.version) (ap (λ (x : Received × GossipState). is_news x.0) here ∙ none)
