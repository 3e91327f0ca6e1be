pub mod Asking
pub mod Correcting
