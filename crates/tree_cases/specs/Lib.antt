pub mod Named
pub mod Swap
