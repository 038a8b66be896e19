pub mod Expressions
pub mod Forms
pub mod Labels
pub mod Operators
pub mod Queries
pub mod Sequences
pub mod Simple
pub mod Switches
