mod ResumeLaws
mod Seating
mod Composing
mod Reaching
mod Seated
mod Waking
pub mod Leaving
