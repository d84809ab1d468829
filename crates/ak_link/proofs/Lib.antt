mod FoundNames
pub mod HeardPackets
pub mod Longest
mod Retries
