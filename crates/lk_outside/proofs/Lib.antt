pub mod FileContents
pub mod ScannedTables
pub mod TableSizes
