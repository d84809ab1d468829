pub mod Counted
pub mod Sight
