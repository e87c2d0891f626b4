-- in reading order
pub mod Visitor
pub mod Ledger
