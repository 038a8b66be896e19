pub mod Courses
pub mod Frames
pub mod Later
pub mod Laws
pub mod Meaning
