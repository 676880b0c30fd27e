pub mod ListLaws
pub mod Exactly
