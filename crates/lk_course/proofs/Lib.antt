pub mod Agreeing
pub mod Counts
pub mod Happening
pub mod Lately
pub mod Samples
pub mod Sessions
pub mod Visits
