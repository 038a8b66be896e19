pub mod Alike
pub mod Language
pub mod Law
pub mod Sites
pub mod Standing
pub mod UsesApart
