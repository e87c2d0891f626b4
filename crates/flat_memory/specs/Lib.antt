pub mod Fields
pub mod PageView
pub mod RegionView
pub mod PagesView
pub mod MemoryView
pub mod StringsView
pub mod Stacked
