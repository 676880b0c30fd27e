pub mod Held
pub mod Chosen
