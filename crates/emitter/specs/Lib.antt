pub mod Emittable
pub mod Writing
