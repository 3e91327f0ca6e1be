pub mod Printed
pub mod Refusals
