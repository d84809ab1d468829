pub mod Reach
pub mod Unreachable
pub mod Walk
