pub mod Trees
pub mod Unions
