pub mod TemplateInduction
pub mod TemplatesByBytes
pub mod TemplateLoops
pub mod HeadLaws
pub mod CollectLaws
pub mod BodyLaws
