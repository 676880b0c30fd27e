pub mod Accepting
pub mod Environments
pub mod TemplateSorts
pub mod BodySorts
pub mod HeadSorts
pub mod SizeLaws
