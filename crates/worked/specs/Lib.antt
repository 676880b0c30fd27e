pub mod House
pub mod Computing
