pub mod Closing
pub mod Knowledge
pub mod Membership
pub mod MembershipContracts
pub mod Tick
