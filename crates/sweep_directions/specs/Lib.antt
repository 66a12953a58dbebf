pub mod Directions
pub mod Internal
