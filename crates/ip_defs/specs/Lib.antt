pub mod Sums
pub mod Lists
pub mod Program
pub mod Boxes
pub mod Breaches
pub mod Certificates
pub mod Limits
