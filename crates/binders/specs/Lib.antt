pub mod Slots
pub mod Links
