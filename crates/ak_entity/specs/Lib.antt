pub mod Active
pub mod Entities
pub mod Stored
