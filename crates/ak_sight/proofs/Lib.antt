pub mod AlikeLaws
pub mod CountLemmas
pub mod MovedLaws
pub mod SightLaws
pub mod WalkLemmas
