pub mod Lines
pub mod ExecLines
