pub mod Inlined
pub mod KindsOfTypes
pub mod Law
pub mod Sets
pub mod Stands
pub mod Tabled
