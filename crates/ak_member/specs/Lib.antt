pub mod Age
pub mod Ages
pub mod Indices
pub mod Merging
pub mod Slots
pub mod Standing
pub mod View
