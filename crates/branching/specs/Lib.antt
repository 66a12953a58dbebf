pub mod Counts
pub mod BestFirst
pub mod Outcomes
pub mod Sizes
pub mod Internal
