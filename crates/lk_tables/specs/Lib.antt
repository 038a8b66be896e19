pub mod Choices
pub mod Law
pub mod Named
pub mod Printing
pub mod Reading
pub mod Words
