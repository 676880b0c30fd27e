pub mod Cases
pub mod Tallies
