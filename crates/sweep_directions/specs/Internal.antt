-- Definitions for the contracts of private functions and for proofs of this crate alone.
pub mod Sides
