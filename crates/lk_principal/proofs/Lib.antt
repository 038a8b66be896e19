pub mod Emptied
pub mod FunctionNames
pub mod Instances
pub mod Places
pub mod Shares
pub mod Standing
pub mod There
pub mod Used
