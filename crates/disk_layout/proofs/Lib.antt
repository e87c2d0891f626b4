mod NumberLaws
pub mod SizeLaws
pub mod RunLaws
pub mod ChoiceLaws
pub mod RawLaws
pub mod HomeLaws
pub mod LabelLaws
