-- in reading order
pub mod Objects
pub mod Walks
pub mod Forest
pub mod Changes
pub mod Descent
pub mod Release
pub mod Labels
pub mod Mapped
pub mod Calls
pub mod Example
pub mod Laws
