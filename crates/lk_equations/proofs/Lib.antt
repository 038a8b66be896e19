mod Changes
pub mod Columns
pub mod Counts
pub mod Hiding
pub mod Numbers
pub mod Queries
pub mod Seeing
pub mod Tabling
pub mod Unfold
