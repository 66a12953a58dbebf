pub mod Lists
pub mod Numbers
pub mod Records
pub mod TextModels
pub mod Faults
pub mod CanonicalText
