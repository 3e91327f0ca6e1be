pub mod Columns
pub mod Statements
pub mod Readings
pub mod Passed
pub mod FromFn
