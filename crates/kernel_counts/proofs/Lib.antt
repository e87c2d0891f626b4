pub mod TallyLaws
pub mod CountsStand
pub mod NamesStand
pub mod DomainCounts
pub mod ExactCounts
pub mod SpaceCounts
