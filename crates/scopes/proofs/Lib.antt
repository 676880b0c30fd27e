pub mod NameLaws
pub mod AroundLaws
