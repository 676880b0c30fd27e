pub mod StampLaws
pub mod FieldLaws
pub mod SearchLaws
pub mod WholeLaws
pub mod SpellLaws
