pub mod Expressions
pub mod Forms
pub mod Functions
pub mod Groups
pub mod Programs
pub mod Types
