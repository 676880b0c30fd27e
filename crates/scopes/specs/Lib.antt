pub mod Marks
pub mod Scopes
