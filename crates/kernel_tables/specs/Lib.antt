-- in reading order
pub mod Entries
pub mod Files
pub mod Kernel
pub mod Rows
pub mod Blocks
