pub mod Asking
pub mod Sweeping
pub mod Taking
