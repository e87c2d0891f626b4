-- in reading order
pub mod First
