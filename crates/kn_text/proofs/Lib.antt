pub mod Reading
mod Splitting
