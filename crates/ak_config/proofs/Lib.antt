pub mod Steps
pub mod AddressLemmas
pub mod ListingLemmas
pub mod KeyLemmas
pub mod LeastLemmas
