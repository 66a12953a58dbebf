-- What only the contracts of private functions and the proofs of this crate speak of.
pub mod Below
pub mod BoundWords
pub mod Clamps
pub mod Drafted
pub mod DraftModels
pub mod Progress
pub mod Reading
pub mod Rounding
pub mod Taking
