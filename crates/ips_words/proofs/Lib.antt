pub mod ParseLaws
pub mod PlainLaws
pub mod RangeLaws
pub mod WalkLaws
pub mod WordExamples
