pub mod Causes
pub mod EitherWay
pub mod Listings
pub mod NamedTables
pub mod Scopes
pub mod Selected
pub mod Writings
