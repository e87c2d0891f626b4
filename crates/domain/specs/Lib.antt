-- in reading order
pub mod Keys
pub mod Domains
pub mod Slots
pub mod Marks
pub mod Rules
pub mod Sets
pub mod Buffers
pub mod Life
pub mod Ends
pub mod Fields
pub mod Lives
pub mod Phases
pub mod Checks
pub mod Tests
