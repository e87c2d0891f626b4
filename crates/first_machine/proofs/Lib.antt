pub mod Tables
pub mod Made
pub mod Seen
pub mod All
