pub mod Kinds
pub mod TextKinds
pub mod Counts
