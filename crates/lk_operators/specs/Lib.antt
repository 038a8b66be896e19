pub mod Groups
pub mod Lists
pub mod Numbers
pub mod Operators
pub mod Order
pub mod Outcomes
pub mod Records
pub mod Values
