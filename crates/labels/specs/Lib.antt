pub mod Stamps
pub mod Searches
