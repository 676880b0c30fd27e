pub mod Keywords
pub mod Syntax
pub mod Check
pub mod Passes
pub mod CheckedInto
pub mod Laid
