pub mod NewWalks
pub mod BootEntries
pub mod Room
