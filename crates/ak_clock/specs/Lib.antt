pub mod Version
pub mod Walk
