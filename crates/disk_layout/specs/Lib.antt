-- in reading order
pub mod Sizes
pub mod Saved
pub mod Position
pub mod Runs
