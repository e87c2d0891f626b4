-- in reading order
pub mod Plans
pub mod Start
pub mod Addresses
pub mod Seals
pub mod Loaded
