pub mod DescentLaws
pub mod LeafLaws
pub mod PartLaws
pub mod TreeLaws
pub mod StreamLaws
