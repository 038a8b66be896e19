pub mod Continues
mod Labelled
pub mod Lookups
pub mod Places
pub mod Resumes
pub mod Samples
pub mod Used
