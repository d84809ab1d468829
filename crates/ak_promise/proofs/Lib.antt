pub mod BallotOrder
pub mod PromiseLemmas
pub mod PromiseLaws
