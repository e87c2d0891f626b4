-- in reading order
pub mod Sizes
pub mod Format
pub mod Commit
pub mod Loading
pub mod Recover
pub mod Filling
