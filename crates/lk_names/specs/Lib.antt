pub mod Expressions
pub mod Faults
pub mod Programs
pub mod Repeats
pub mod Types
