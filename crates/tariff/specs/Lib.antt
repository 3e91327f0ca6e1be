pub mod Heads
pub mod Sheets
pub mod Costs
