pub mod FillLaws
pub mod GateLaws
pub mod SaveLaws
pub mod SizeRules
pub mod LoadLaws
pub mod RecoverLaws
pub mod BlankLaws
mod LabelBytes
pub mod FormatLaws
