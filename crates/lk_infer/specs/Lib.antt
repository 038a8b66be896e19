pub mod Disagreements
pub mod Generalised
pub mod Inferred
pub mod Lacks
pub mod LacksInOrder
pub mod Programs
pub mod Refusals
pub mod Walked
