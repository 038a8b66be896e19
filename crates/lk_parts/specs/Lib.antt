pub mod Operators
pub mod Parts
pub mod Starts
