pub mod Reading
pub mod Spelling
pub mod Ranges
pub mod Fields
pub mod Lists
pub mod Parts
pub mod Walk
pub mod Laws
