pub mod ConvergenceLaws
pub mod TallyLaws
pub mod UsesLaws
