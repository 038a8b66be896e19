pub mod Chains
pub mod InScope
