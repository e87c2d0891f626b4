-- in reading order
pub mod Rows
pub mod Roots
pub mod Numbers
pub mod Laws
