pub mod Hashing
pub mod Walks
pub mod DivisionLaws
