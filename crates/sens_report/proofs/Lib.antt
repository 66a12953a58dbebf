pub mod AnswerExamples
pub mod LineLaws
pub mod ReplyExamples
pub mod SweepExamples
