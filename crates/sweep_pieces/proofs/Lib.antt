pub mod FitLaws
pub mod MoveLaws
pub mod PieceLaws
pub mod RunLaws
