-- in reading order
pub mod Steps
pub mod Ways
pub mod Leaves
pub mod Releases
pub mod Blocks
pub mod Promises
pub mod Writes
pub mod Prunes
pub mod Checks
