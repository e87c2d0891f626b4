-- in reading order
pub mod TurnLaws
pub mod RuleLaws
pub mod RoomLaws
pub mod ConsoleLaws
pub mod DescriptorLaws
pub mod LastingLaws
pub mod WaitingLaws
pub mod CallLaws
pub mod TreeLaws
