-- What only the contracts of private functions and the proofs of this crate speak of.
pub mod Courses
pub mod Gaps
pub mod Solving
pub mod Walks
