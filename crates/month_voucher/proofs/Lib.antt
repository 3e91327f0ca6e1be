pub mod Filled
pub mod Totals
