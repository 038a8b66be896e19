pub mod Expressions
pub mod Programs
pub mod Reading
pub mod ReadingPrograms
pub mod Refusals
