pub mod Numbers
pub mod Quiet
