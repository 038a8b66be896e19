pub mod ColumnMaps
pub mod Forms
pub mod Given
pub mod InOrder
pub mod Levels
pub mod Readings
pub mod Records
pub mod Within
