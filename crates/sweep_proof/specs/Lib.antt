pub mod CostLaws
pub mod CostRules
pub mod CostSweeps
pub mod Internal
pub mod Laws
pub mod RowRules
pub mod RowSweeps
