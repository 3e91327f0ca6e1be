pub mod Rows
pub mod UnitsInRange
pub mod Cells
