pub mod CensusKept
pub mod CensusLemmas
pub mod EndLemmas
pub mod GenerateLemmas
pub mod SeenLemmas
