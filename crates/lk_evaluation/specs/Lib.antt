pub mod Evaluation
pub mod Laws
pub mod Run
pub mod Source
pub mod Syntax
