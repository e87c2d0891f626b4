pub mod QuietLines
pub mod TurnSteps
pub mod FreeTurns
