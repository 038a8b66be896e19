pub mod Accepted
pub mod Blocks
pub mod Compiled
pub mod Errors
pub mod Sessions
pub mod Sites
