pub mod Nesting
pub mod Pieces
pub mod Refusals
pub mod Scanner
pub mod Tokens
