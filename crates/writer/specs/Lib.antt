pub mod Writing
pub mod Pool
pub mod Beginnings
