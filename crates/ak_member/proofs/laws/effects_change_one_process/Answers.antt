use Rattle.ak_member.proofs.ViewLaws.{get-known_here, get-known_elsewhere}
use Rattle.ak_member.proofs.laws.effects_change_one_process.Goals as goal

pub returns : goal.returns
returns c = record { there = get-known_here; elsewhere = get-known_elsewhere }
