pub mod Sending
pub mod Steps
pub mod GossipFields
pub mod BodyFields
pub mod DatagramFields
pub mod Lengths
pub mod Numbered
pub mod Decided
