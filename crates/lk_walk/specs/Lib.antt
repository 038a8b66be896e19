pub mod Blocks
pub mod Members
pub mod Using
pub mod Went
