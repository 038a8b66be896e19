pub mod Law
pub mod Outline
pub mod Shown
pub mod Typed
pub mod Walked
