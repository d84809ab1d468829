pub mod SettledLaws
pub mod SettledLemmas
