pub mod Faults
pub mod TemplateBytes
pub mod HeadBytes
pub mod BodyBytes
