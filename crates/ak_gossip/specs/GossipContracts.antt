-- Words of the contracts of a gossip's calls.
use Rattle.std.specs.Prelude.{◌≡◌, ℕ, nat_lt, if◌then◌else◌, Option, Some, None, Result, Ok, Err}
use Rattle.ak_address.specs.Unique.{UniqueModel}
use Rattle.ak_gossip.specs.declared.gossip.Received.{Received}
use Rattle.ak_gossip.specs.declared.gossip.GossipFault.{GossipFault}
use Rattle.ak_gossip.specs.declared.gossip.GossipFault.TheVariants.{ForeignCount, TooManyUniques, NoMemory}
use Rattle.ak_gossip.specs.Gossip.{GossipState, most_uniques, receive}

-- What a call of `receive` answered and left is what receiving gives; a refusal and running out of memory leave the gossip as it was.
abbrev pub Receives : UniqueModel → GossipState → GossipState → Result Received GossipFault → GossipState → Type 0
Receives me old incoming (Ok r) new = receive me old incoming ≡ Ok (r, new)
Receives me old incoming (Err (ForeignCount own theirs)) new = (receive me old incoming ≡ Err (ForeignCount own theirs)) × (new ≡ old)
Receives me old incoming (Err (TooManyUniques union)) new = (receive me old incoming ≡ Err (TooManyUniques union)) × (new ≡ old)
Receives me old incoming (Err (NoMemory _)) new = new ≡ old

-- a number of uniques that a gossip may not hold
abbrev pub excess_of : ℕ → Option ℕ
excess_of n = if nat_lt most_uniques n then Some n else None

-- what is counted of a node, its own count and that of a gossip, where the gossip counts more
abbrev pub foreign_of : ℕ → ℕ → Option (ℕ × ℕ)
foreign_of own theirs = if nat_lt own theirs then Some (own, theirs) else None
