mod StoreLaws
mod BootLaws
pub mod OutcomeLaws
