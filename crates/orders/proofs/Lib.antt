pub mod Left
pub mod OrderLaws
