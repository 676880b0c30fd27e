pub mod Lengths
pub mod OwnLengths
