use Rattle.ak_meaning.proofs.WaitingLaws.{count_alike, reach_alike, converge_alike, settle_alike, lead_alike, decide_alike, down_alike}
use Rattle.ak_meaning.proofs.laws.joining_or_weakly_up_is_the_same_to_the_rest.Goals as goal

pub returns : goal.returns
returns c = record {
  counted = count_alike;
  reached = reach_alike;
  converged = converge_alike;
  settled = settle_alike;
  leader = lead_alike;
  decision = decide_alike;
  downed = down_alike;
}
