pub mod Classes
pub mod Forest
