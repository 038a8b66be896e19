pub mod Answers
pub mod Ended
pub mod Loading
pub mod Report
pub mod Seen
