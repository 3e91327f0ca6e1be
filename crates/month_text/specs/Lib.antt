pub mod Accepted
pub mod Lines
pub mod Members
pub mod Months
pub mod Numbers
pub mod OneSpelling
pub mod Ranges
pub mod Spelling
