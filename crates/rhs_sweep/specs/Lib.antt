pub mod Internal
pub mod RowSolves
pub mod RowStops
