mod Added
mod Framed
mod InOrder
pub mod Labels
pub mod Lists
pub mod Numbered
mod Samples
mod Units
