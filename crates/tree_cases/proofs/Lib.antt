pub mod NamedForms
pub mod Swapping
