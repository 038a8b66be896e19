pub mod Fixed
pub mod Forms
pub mod Labelled
pub mod Made
pub mod Numbered
pub mod Places
pub mod Seen
pub mod Tabled
