pub mod Internal
pub mod Lines
pub mod QuestionFiles
pub mod SweepFiles
