pub mod Held
pub mod Console
