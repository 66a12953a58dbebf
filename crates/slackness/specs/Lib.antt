pub mod Internal
pub mod Laws
pub mod Points
pub mod Proposals
pub mod Tight
