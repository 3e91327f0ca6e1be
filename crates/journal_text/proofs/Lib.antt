pub mod Components
pub mod Counted
pub mod FirstLines
pub mod Lines
pub mod Months
pub mod Reading
pub mod Refused
pub mod Ranged
