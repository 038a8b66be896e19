pub mod Bags
pub mod Change
pub mod Good
pub mod Keys
pub mod Meaning
pub mod Operations
pub mod Text
