pub mod Answered
pub mod Journals
pub mod Pieces
pub mod Terms
