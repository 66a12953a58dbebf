pub mod CountLaws
pub mod FieldLaws
pub mod NameLaws
