pub mod Rates
pub mod Years
