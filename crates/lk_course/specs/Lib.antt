pub mod Agreement
pub mod Counting
pub mod Events
pub mod Laws
pub mod Standing
