pub mod Allocation
pub mod Meaning
