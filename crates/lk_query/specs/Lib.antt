pub mod Branches
pub mod Captured
pub mod Changed
pub mod Given
pub mod Kinds
pub mod Order
