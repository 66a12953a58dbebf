pub mod Products
pub mod Rings
pub mod Normal
pub mod Named
pub mod Sums
pub mod Trials
