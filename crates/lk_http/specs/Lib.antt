pub mod Fields
pub mod Law
pub mod Limits
pub mod Reading
pub mod Replies
pub mod Requests
pub mod Verdicts
pub mod Written
