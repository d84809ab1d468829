pub mod Settled
pub mod SettledView
pub mod Ticks
