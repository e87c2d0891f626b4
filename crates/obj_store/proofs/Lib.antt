pub mod Blocks
pub mod Keys
pub mod Pages
pub mod Numbers
