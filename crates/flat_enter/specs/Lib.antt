pub mod Enters
pub mod Strings
