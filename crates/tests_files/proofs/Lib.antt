pub mod Made
pub mod Seen
pub mod Unnamed
pub mod Written
