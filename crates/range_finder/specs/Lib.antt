pub mod Aims
pub mod Internal
