pub mod Ballot
pub mod Promise
