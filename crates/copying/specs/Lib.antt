pub mod Copied
pub mod RowTemplates
pub mod Hanging
pub mod Copies
pub mod TemplateSizes
