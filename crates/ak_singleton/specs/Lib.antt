pub mod Singleton
pub mod SingletonView
pub mod Rules
