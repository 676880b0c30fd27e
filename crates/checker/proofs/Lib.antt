pub mod Passing
pub mod TableTheorems
pub mod CheckLaws
pub mod Joined
pub mod PassedNames
