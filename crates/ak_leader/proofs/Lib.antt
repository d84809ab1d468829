pub mod LeaderLaws
pub mod LedLaws
pub mod NumberLaws
pub mod WeakLaws
