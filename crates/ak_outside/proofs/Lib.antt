pub mod Prefixes
pub mod Endings
pub mod Interruptions
pub mod FileLemmas
mod Copied
mod LineLemmas
