pub mod Agreeing
pub mod Chosen
pub mod Operands
mod Passing
pub mod Scanned
pub mod Scopes
