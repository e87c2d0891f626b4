-- in reading order
pub mod FreeList
pub mod Bank
pub mod Fixed
pub mod Shares
pub mod Changes
pub mod Laws
pub mod Setup
