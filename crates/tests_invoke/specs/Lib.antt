pub mod Caller
pub mod People
