pub mod FirstSets
pub mod Mentions
pub mod Reach
pub mod Rules
pub mod Patterns
pub mod Room
pub mod SetCalls
pub mod Needs
