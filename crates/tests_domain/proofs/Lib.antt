pub mod Ready
pub mod Ranges
pub mod ServiceLaws
