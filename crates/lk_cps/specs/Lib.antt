pub mod Conts
pub mod Live
pub mod Numbered
pub mod Steps
