pub mod Law
pub mod Order
pub mod Keys
pub mod Changes
pub mod Database
pub mod Executed
