pub mod LineSamples
pub mod Lines
pub mod Numbers
pub mod Samples
