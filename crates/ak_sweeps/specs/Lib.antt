pub mod GeneratedRun
pub mod RunContracts
pub mod SweepText
pub mod SweepPromise
