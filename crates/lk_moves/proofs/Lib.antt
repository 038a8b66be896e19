pub mod Courses
pub mod Equal
pub mod Framed
pub mod Rising
