pub mod EntityLaws
pub mod StoredLemmas
