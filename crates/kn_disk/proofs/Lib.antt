pub mod Scars
pub mod RunLaws
mod HistoryLaws
mod ClipLaws
mod ReplayLaws
mod TapeLaws
mod DiskLaws
