pub mod LineLaws
pub mod TellingLaws
