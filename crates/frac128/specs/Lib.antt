pub mod Division
pub mod Fractions
pub mod Gcd
pub mod LowestTerms
pub mod Rationals
pub mod Values
