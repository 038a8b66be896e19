pub mod Exact
pub mod Gives
pub mod Keywords
pub mod Kinds
pub mod Reader
