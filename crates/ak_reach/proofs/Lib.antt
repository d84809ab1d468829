pub mod ReachLemmas
pub mod UnreachableLaws
