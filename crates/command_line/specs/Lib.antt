pub mod Words
pub mod WordsView
