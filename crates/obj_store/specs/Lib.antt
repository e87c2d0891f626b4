-- in reading order
pub mod Ram
pub mod Store
pub mod StoreLaws
