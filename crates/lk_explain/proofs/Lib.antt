mod Lines
mod Samples
