pub mod Columns
pub mod Readings
pub mod Checks
pub mod Charges
