pub mod Meanings
pub mod Nodes
pub mod Numbers
pub mod Pivots
pub mod Tables
pub mod Internal
