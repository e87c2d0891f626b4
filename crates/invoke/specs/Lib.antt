-- in reading order
pub mod Steps
pub mod Laws
pub mod Room
pub mod Invokes
pub mod Parking
pub mod Others
