pub mod Grown
pub mod Opened
pub mod TextRoom
