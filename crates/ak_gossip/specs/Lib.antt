pub mod Gossip
pub mod GossipContracts
pub mod Ownership
pub mod Parts
pub mod PartsWalk
