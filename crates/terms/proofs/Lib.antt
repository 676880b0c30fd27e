pub mod Spellings
pub mod Constructors
pub mod ReadBack
pub mod TreeOfTerm
pub mod Origin
pub mod WhoseName
pub mod Loose
pub mod Repeated
pub mod NewNames
pub mod FreeVariables
pub mod TextLength
pub mod EmitLaws
pub mod Statements
mod Examples
