pub mod Free
pub mod Index
pub mod Places
