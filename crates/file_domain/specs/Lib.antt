-- in reading order
pub mod Good
pub mod Effects
pub mod Cutting
pub mod Dropping
