pub mod Exact
pub mod LawsOfExact
