pub mod FractionLaws
pub mod OptimumLaws
pub mod RationalLaws
pub mod SameLaws
pub mod TightLaws
pub mod WholeLaws
