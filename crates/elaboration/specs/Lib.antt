pub mod Contexts
pub mod CheckSequence
pub mod Elaboration
pub mod FewerRows
