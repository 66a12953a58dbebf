pub mod Ceilings
pub mod ChangedSums
pub mod OrderLaws
pub mod PaymentLaws
pub mod RaisedNumbers
pub mod Rows
pub mod Steps
pub mod Taken
