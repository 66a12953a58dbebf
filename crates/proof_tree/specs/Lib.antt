pub mod LabelledTrees
pub mod Scratches
pub mod Trees
pub mod Verdicts
pub mod Within
pub mod Internal
