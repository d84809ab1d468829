pub mod Covering
pub mod HistoryLemmas
pub mod RowsShown
pub mod StandingsShown
pub mod ViewsMerged
mod WalkLemmas
