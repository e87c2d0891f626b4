pub mod LeastLaws
pub mod GoodLaws
pub mod RootLaws
pub mod HandLaws
pub mod FreshLaws
pub mod PageLaws
pub mod FreeRowLaws
