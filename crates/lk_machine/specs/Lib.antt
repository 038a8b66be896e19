pub mod Acts
pub mod Going
pub mod Moves
pub mod Stepped
pub mod Typed
