pub mod ReachLaws
pub mod Exactly
pub mod WorkLaws
