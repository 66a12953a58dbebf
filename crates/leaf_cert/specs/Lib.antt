pub mod Changes
pub mod Columns
pub mod Scratches
pub mod Internal
