pub mod Configuration
pub mod Address
pub mod ConfigContracts
pub mod Keys
