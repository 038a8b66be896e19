pub mod Leaving
pub mod Names
pub mod Scoped
