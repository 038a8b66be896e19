pub mod Again
pub mod Bare
pub mod Good
pub mod Printed
pub mod Shapes
pub mod Signs
pub mod Written
