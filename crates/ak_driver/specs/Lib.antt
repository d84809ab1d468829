pub mod Headline
pub mod ReplayPromise
pub mod ReplayText
pub mod ReplayContracts
pub mod StatusContracts
pub mod WordsContracts
pub mod Worked
