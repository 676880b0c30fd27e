pub mod Parsing
pub mod Root
pub mod Complete
pub mod Cutting
pub mod Joining
pub mod Running
