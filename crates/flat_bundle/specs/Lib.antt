-- in reading order
pub mod Booting
pub mod Steps
