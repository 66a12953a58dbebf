pub mod Certificates
pub mod Meanings
pub mod Multiples
pub mod Internal
