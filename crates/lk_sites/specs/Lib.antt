pub mod Blocks
pub mod Law
pub mod Pending
pub mod SiteKinds
pub mod SiteSeen
pub mod Sites
pub mod SitesInside
pub mod Takes
