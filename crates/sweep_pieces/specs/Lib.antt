pub mod Internal
pub mod Laws
pub mod Pieces
pub mod Runs
