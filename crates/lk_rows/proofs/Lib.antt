pub mod Complete
pub mod Contract
pub mod Room
pub mod Sound
