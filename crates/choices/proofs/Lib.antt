pub mod SameSets
pub mod ChoiceLaws
