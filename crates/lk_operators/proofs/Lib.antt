pub mod Ascending
pub mod LastValue
mod Passing
mod Samples
