pub mod Substitution
pub mod Reading
pub mod ReadingRules
pub mod Unread
