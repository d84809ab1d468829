pub mod DownedLaws
pub mod LeastLemmas
pub mod OldestLaws
pub mod SideLemmas
pub mod SidesLaws
pub mod RoleLaws
