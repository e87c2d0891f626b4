pub mod FlatView
pub mod Boots
pub mod Families
pub mod Turns
pub mod Idle
pub mod FreeTurns
