pub mod Chains
pub mod FittingRows
mod NoFloat
pub mod PlainLevels
pub mod PlainRows
