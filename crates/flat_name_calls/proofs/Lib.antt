pub mod MakingLaws
pub mod OpeningLaws
pub mod RenamingLaws
