pub mod Tables
pub mod Filled
pub mod Standings
pub mod Given
pub mod LawsOfMeasures
