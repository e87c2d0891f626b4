-- in reading order
pub mod Places
pub mod Rows
pub mod Listing
pub mod Changes
