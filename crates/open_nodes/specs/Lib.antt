pub mod OpenTrees
pub mod Nodes
pub mod Frontiers
pub mod Internal
