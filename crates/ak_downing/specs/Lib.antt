pub mod Downing
pub mod Oldest
pub mod Sides
