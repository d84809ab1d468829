pub mod Select
pub mod Walk
