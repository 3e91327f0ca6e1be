pub mod Members
pub mod Rates
pub mod Tolerances
pub mod Lawful
