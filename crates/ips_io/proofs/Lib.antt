pub mod PieceLaws
pub mod PlaceLaws
pub mod TableLaws
pub mod ShelfLaws
pub mod NameLaws
