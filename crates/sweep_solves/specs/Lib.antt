pub mod Solves
pub mod Stops
