pub mod Options
pub mod Passes
pub mod Magnitudes
pub mod Products
pub mod Quotients
pub mod Parts
pub mod SignedSums
pub mod Tabulated
