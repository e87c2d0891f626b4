pub mod SlotLaws
pub mod DirectoryLaws
pub mod WriteLaws
pub mod InodeCounts
pub mod WalkSteps
pub mod ParentLaws
