pub mod Loads
pub mod Maps
pub mod Strings
pub mod Sealed
pub mod Written
pub mod Images
pub mod Memories
