pub mod SameLemmas
pub mod HashLemmas
pub mod PacketLemmas
