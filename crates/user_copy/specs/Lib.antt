-- in reading order
pub mod SpaceMemory
pub mod Taking
pub mod Writing
