pub mod Edits
pub mod Internal
pub mod Lines
