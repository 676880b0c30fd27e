pub mod TokenLaws
pub mod SourceLaws
pub mod ItemLaws
pub mod TextLaws
