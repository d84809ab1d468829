pub mod History
pub mod Shown
pub mod Walk
