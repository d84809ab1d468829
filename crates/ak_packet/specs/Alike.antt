-- Packets that say the same beside what a version shows. What is known is what its version shows of the history of its cluster, so
-- that among the packets of one world those that are alike are the same.
use Rattle.std.specs.Prelude.{Bool, true, false, ◌&&◌, ◌==◌}
use base.Stored.{Gv, gnil, gnum, gcons}
use Rattle.ak_gossip.specs.Gossip.{GossipState}
use Rattle.ak_member.specs.View.{empty_view}
use Rattle.ak_wire.specs.contracts.shared.SharedEnvelope as shared
use Rattle.ak_wire.specs.declared.envelope.Envelope.{Envelope}
use Rattle.ak_wire.specs.declared.envelope.Message.{Message}
use Rattle.ak_wire.specs.declared.envelope.Message.TheVariants.{Welcome, Gossip}

-- its version, and who has seen it
abbrev pub bare_gossip : GossipState → GossipState
bare_gossip g = record g { view = empty_view }

-- a message without what its version shows
abbrev pub bare_message : Message → Message
bare_message (Welcome g) = Welcome (bare_gossip g)
bare_message (Gossip g) = Gossip (bare_gossip g)
bare_message other = other

abbrev pub bare : Envelope → Envelope
bare e = record e { message = bare_message e.message }

-- two codes are the same
unfoldable pub is_code : Gv → Gv → Bool
is_code gnil gnil = true
is_code (gnum n) (gnum k) = n == k
is_code (gcons a b) (gcons c d) = is_code a c && is_code b d
is_code code other = false

-- the packets say the same, but for what the versions in them show
unfoldable pub is_alike : Envelope → Envelope → Bool
is_alike d e = is_code (shared.the_row.coded.code (bare d)) (shared.the_row.coded.code (bare e))
