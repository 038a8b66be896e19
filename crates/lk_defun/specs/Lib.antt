pub mod Numbers
pub mod Signatures
pub mod Whole
pub mod Words
