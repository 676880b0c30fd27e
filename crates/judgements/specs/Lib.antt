pub mod Scopes
pub mod Sizes
pub mod CheckSorts
pub mod Judgements
