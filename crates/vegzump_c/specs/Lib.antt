pub mod Comparing
pub mod Replies
