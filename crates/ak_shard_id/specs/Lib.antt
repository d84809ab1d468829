pub mod Shard
pub mod Division
