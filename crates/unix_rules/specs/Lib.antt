-- in reading order
pub mod ProcessRules
pub mod FileRules
pub mod WholeRules
pub mod RefusalLaws
pub mod WaitLaws
pub mod NameLaws
