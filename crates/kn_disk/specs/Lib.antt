-- in reading order
pub mod Images
pub mod Steps
pub mod StepLaws
pub mod Changes
pub mod History
pub mod Calls
pub mod MemoryDisk
pub mod FileDisk
