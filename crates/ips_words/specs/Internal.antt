-- What only private contracts cite.
pub mod Rows
pub mod Parts
pub mod Parsers
