pub mod Alike
pub mod AlikeLaws
pub mod Carried
pub mod Hashed
