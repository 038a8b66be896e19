pub mod Chains
pub mod StartLaws
pub mod TokenTests
