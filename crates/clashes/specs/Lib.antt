pub mod Openings
pub mod CheckFirsts
pub mod Clashes
pub mod Named
pub mod FirstRefusals
pub mod Pairs
pub mod CheckCalls
