pub mod Keeping
pub mod Walking
pub mod Loads
