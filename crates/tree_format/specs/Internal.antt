-- What only the contracts of private functions and the proofs of this crate speak of.
pub mod Fields
pub mod Remaining
pub mod Stretches
pub mod Steps
