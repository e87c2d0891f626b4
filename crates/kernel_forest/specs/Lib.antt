-- in reading order
pub mod Trees
pub mod Apart
pub mod Owners
pub mod Moves
pub mod Releases
pub mod Laws
