pub mod TextLaws
pub mod StringLaws
pub mod BreakLines
pub mod EnterLines
