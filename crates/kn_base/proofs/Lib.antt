pub mod KeyLaws
pub mod ReadLaws
pub mod RowLaws
pub mod ZeroLaws
pub mod MemoryLaws
