pub mod Leader
pub mod Led
pub mod Walk
