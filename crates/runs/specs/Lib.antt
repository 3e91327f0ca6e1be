pub mod Orders
pub mod Runs
