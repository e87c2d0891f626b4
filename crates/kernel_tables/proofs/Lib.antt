pub mod Rows
pub mod Places
pub mod Sizes
pub mod ZeroTables
pub mod BlockLaws
