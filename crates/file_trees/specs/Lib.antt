-- in reading order
pub mod Trees
pub mod Pieces
pub mod Cuts
pub mod FileMemory
pub mod Good
