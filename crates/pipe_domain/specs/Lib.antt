-- in reading order
pub mod Rings
pub mod Ends
pub mod Pipes
pub mod Made
pub mod Laws
