pub mod Different
pub mod Names
