pub mod Answers
pub mod Internal
