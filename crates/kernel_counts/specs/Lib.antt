-- in reading order
pub mod Counted
