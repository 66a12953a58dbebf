pub mod CanonicalExamples
pub mod LineRefusalExamples
pub mod ModelExamples
pub mod ModelRefusalExamples
pub mod NumberExamples
pub mod ProgramExamples
