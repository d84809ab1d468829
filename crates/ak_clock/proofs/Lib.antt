pub mod VersionLaws
mod WalkLemmas
