pub mod Law
pub mod Meeting
pub mod Typing
