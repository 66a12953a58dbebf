pub mod DecimalLaws
pub mod NumberLaws
