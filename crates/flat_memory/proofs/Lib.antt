pub mod PlaceLaws
pub mod PageLaws
pub mod StackLaws
pub mod ImageLaws
pub mod BreakLaws
