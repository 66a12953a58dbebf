pub mod EndLaws
pub mod PointLaws
pub mod StepLaws
