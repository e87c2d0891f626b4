pub mod DescriptorLaws
pub mod Settling
pub mod FileLines
pub mod LengthLaws
pub mod ListingLaws
pub mod ConsoleTurns
