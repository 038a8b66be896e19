pub mod Lists
pub mod Doubled
