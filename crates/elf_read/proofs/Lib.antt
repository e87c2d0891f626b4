pub mod Fields
pub mod TestLemmas
pub mod LoadLemmas
pub mod BreakLemmas
pub mod PlanLemmas
