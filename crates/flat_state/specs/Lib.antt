pub mod SentCount
pub mod ProcessView
pub mod EndedChildView
pub mod PaceView
pub mod SlotTableView
pub mod SlotsView
pub mod StateView
pub mod Settles
