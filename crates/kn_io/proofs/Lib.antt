pub mod Taking
pub mod Growing
mod SinkParts
