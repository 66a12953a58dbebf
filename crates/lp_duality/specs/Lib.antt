pub mod CertificateDuals
pub mod Duals
pub mod Laws
pub mod Relaxations
