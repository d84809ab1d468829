use Rattle.std.proofs.Common.{sym, ap, arith}
use Rattle.std.specs.FinMap as map
use Rattle.ak_member.specs.Standing.{Standings, merged_standing}
use Rattle.ak_gossip.specs.Gossip.{GossipState}
use Rattle.ak_gossip.proofs.InvariantLemmas.{few_as}
use Rattle.ak_gossip.proofs.SeenLemmas.{few_of, len-merged_tables-most}
use Rattle.ak_gossip.proofs.gossip.Gossip.excess.Goals as goal

pub returns-then-own-theirs-le-MOST_UNIQUES : goal.returns-then-own-theirs-le-MOST_UNIQUES
returns-then-own-theirs-le-MOST_UNIQUES c =
    let own : GossipState = c.self.inside.known in
    let incoming : GossipState = c.incoming.inside.known in
    few_of _ (few_as c.args.self.now own c.args.incoming.now incoming (sym c.self.view_is) (sym c.incoming.view_is)
    (omega (
      arith,
      c.uniques-own.ensures,
      c.uniques-theirs.ensures,
      c.if-own-theirs-le-MOST_UNIQUES.true,
      ap (λ (s : Standings). map.len s) c.members.ensures,
      ap (λ (s : Standings). map.len s) c.members-2.ensures,
      len-merged_tables-most merged_standing c.self.inside.known.view.standings c.incoming.inside.known.view.standings,
    )))

pub overflow_cast-result : goal.overflow_cast-result
overflow_cast-result c =
    omega (
      arith,
      c.uniques-union.ensures,
      ap (λ (s : Standings). map.len s) c.in_ok-both_members.ensures,
      c.self.invariant.few,
      c.incoming.invariant.few,
      ap (λ (s : Standings). map.len s) c.members-3.ensures,
      ap (λ (s : Standings). map.len s) c.members-4.ensures,
      len-merged_tables-most merged_standing c.members-3.result.now c.members-4.result.now,
    )
