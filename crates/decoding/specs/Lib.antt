pub mod Layout
pub mod Decode
pub mod Prefix
pub mod Within
