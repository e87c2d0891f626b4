pub mod Ready
pub mod Loading
