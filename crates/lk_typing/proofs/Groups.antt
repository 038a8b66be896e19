pub mod Declarations
pub mod Functions
pub mod Signatures
pub mod Whole
