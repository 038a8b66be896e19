pub mod Law
pub mod Levels
pub mod Values
