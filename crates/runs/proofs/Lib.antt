pub mod Booked
pub mod Called
pub mod Running
