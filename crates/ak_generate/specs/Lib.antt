pub mod Fixed
pub mod Words
pub mod Generated
pub mod Generator
pub mod Census
