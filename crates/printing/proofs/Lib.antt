pub mod Texts
pub mod PrintLaws
