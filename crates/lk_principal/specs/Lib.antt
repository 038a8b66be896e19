pub mod Bodies
pub mod Law
