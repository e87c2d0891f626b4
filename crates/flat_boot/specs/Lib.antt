pub mod NewPaths
pub mod Making
pub mod Starts
