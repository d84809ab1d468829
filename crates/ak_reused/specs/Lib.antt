pub mod Reused
