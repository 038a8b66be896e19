pub mod Filling
pub mod Levels
pub mod NodeCounts
pub mod UsesLevels
