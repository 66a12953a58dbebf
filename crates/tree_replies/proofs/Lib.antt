pub mod AskedLaws
pub mod ReplyExamples
pub mod ReplyLaws
