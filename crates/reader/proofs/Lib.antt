pub mod WordLaws
pub mod JudgeLaws
pub mod RunLaws
pub mod AttemptLaws
pub mod ReadingLaws
pub mod StoreLaws
pub mod SameRows
pub mod StoredTexts
