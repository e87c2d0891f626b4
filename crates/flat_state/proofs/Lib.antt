pub mod SlotLaws
pub mod SlotBounds
pub mod WaitLaws
