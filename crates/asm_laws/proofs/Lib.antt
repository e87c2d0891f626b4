pub mod Sizes
pub mod Fields
pub mod Tests
pub mod Accepted
