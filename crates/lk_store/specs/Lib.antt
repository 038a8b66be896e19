pub mod FailingStore
pub mod Listed
pub mod MemoryStore
