use Rattle.std.proofs.Common.{◌≡◌, sym, ap, ◌∙◌, subst, ◌+◌, ◌++◌, ◌∷◌, [], drop, slice_get, arith}
use Rattle.std.specs.Prelude as list
use Rattle.std.specs.FinMap as map
use Rattle.ak_member.specs.Standing.{Standings}
use Rattle.ak_gossip.specs.Gossip.{GossipState, IsGossip}
use Rattle.ak_gossip.specs.Parts.{part_of, parts_of, AreParts}
use Rattle.ak_gossip.proofs.SeenLemmas.{not_none}
use Rattle.ak_gossip.proofs.PartsLaws.{valid_parts}
use Rattle.ak_gossip.proofs.PartsLemmas.{part_more, parts_end}
use Rattle.ak_gossip.proofs.gossip.Gossip.to_parts.Goals as goal
use Rattle.ak_gossip.proofs.gossip.Gossip.to_parts.Goals.{in-Some+in_ok-part+in_ok-push, in_default}

pub indices-preserved : goal.indices-preserved
indices-preserved c = elim c.match-pair.branch [
  | in-Some+in_ok-part+in_ok-push w ↦
      let pushed : c.match-pair.parts ≡ c.indices.parts ++ w.in_ok-part.part ∷ [] = w.parts-is ∙ w.in_ok-push.ensures.ok in
      ap (λ l. l ++ list.map (part_of c.args.self.now) (drop (c.indices.index + 1) (map.entries c.args.self.now.view.standings))) pushed
      ∙ part_more (part_of c.args.self.now) (map.entries c.args.self.now.view.standings) c.indices.index c.indices.parts _ c.indices.invariant
      (w.in-Some.who.now, w.in-Some.standing) w.in_ok-part.part
      (ap (λ (g : GossipState). slice_get (map.entries g.view.standings) c.indices.index) (sym c.self.view_is) ∙ ap (λ (s : Standings). slice_get (map.entries s) c.indices.index) (sym c.members-members.ensures) ∙ sym w.in-Some.ensures)
      w.in_ok-part.ensures
  | in_default w ↦
      absurd (not_none (map.entries c.members-members.result.now) c.indices.index (omega (arith, c.uniques-index-end.ensures, map.len-entries c.members-members.result.now)) (sym w.in_default.ensures))
]

pub returns : goal.returns
returns c =
    let all : c.indices.parts ≡ parts_of c.args.self.now =
    parts_end (part_of c.args.self.now) (map.entries c.args.self.now.view.standings) c.indices.index c.indices.parts _ c.indices.invariant
    (omega (arith, c.uniques-index-end.ensures, ap (λ (s : Standings). map.len s) c.members-members.ensures, ap (λ (g : GossipState). map.len g.view.standings) c.self.view_is, map.len-entries c.args.self.now.view.standings)) in
    record {
      parts = all;
      valid = subst AreParts (sym all) (valid_parts c.args.self.now (subst IsGossip c.self.view_is c.self.invariant));
    }
