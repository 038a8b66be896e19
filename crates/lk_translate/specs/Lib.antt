pub mod Law
pub mod Translation
pub mod Tried
