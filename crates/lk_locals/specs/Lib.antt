pub mod Layers
pub mod Names
