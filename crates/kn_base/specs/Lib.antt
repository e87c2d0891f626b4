-- in reading order
pub mod Keys
pub mod Rows
pub mod Memory
