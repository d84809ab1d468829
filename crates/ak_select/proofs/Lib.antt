pub mod SelectLaws
pub mod SelectLemmas
