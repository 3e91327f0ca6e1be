pub mod Members
pub mod Bills
pub mod Outcome
pub mod Late
