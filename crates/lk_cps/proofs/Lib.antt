pub mod Entries
pub mod Keeping
pub mod Living
pub mod Numbering
pub mod Pairs
pub mod Samples
pub mod Slots
