use Rattle.ak_select.proofs.SelectLaws.{peer_reachable, peer_none, peer_unseen_first}
use Rattle.ak_select.proofs.laws.the_peer_is_another_reachable_member.Goals as goal

pub returns : goal.returns
returns c = record { reachable = peer_reachable; none = peer_none; unseen = peer_unseen_first }
