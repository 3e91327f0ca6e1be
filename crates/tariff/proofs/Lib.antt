pub mod Sums
pub mod Totals
