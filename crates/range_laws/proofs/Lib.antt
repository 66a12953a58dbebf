pub mod CeilingLaws
pub mod ConcaveLaws
pub mod LeafLaws
pub mod RaisedLaws
pub mod RangeExamples
pub mod RangeLaws
pub mod ReachLaws
pub mod WideningLaws
