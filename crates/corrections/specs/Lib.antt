pub mod Pairs
pub mod Fixes
pub mod Kept
pub mod LawsOfCorrections
