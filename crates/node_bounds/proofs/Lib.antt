pub mod HalvingLaws
pub mod LeafLaws
pub mod RowLaws
pub mod WholeLaws
pub mod PointLaws
pub mod BoundedLaws
pub mod PriceLaws
pub mod StepLaws
