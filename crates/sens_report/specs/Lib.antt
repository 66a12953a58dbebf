pub mod AmountTexts
pub mod AnswerTexts
pub mod ReplyTexts
pub mod StopTexts
pub mod SweepTexts
pub mod SweepVerdictTexts
pub mod VerdictTexts
