pub mod Begun
pub mod Lent
pub mod Begins
pub mod Turns
