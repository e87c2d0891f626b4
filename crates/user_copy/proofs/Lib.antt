pub mod Pages
pub mod Reading
pub mod Texts
pub mod Tests
pub mod Bytes
pub mod Turns
pub mod Pieces
pub mod Across
