pub mod Passes
pub mod Rounding
pub mod Cutting
