-- What only the contracts of private functions and the proofs of this crate speak of.
pub mod Made
pub mod Files
pub mod ModelFiles
pub mod Writes
pub mod TreeFiles
pub mod ProofFiles
pub mod QuestionFiles
pub mod SweepFiles
pub mod SweepProofFiles
