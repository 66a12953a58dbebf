pub mod AnswerLaws
pub mod ScanLaws
pub mod SignLaws
