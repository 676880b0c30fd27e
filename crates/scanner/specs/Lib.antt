pub mod Rooms
pub mod Stepping
pub mod Numbered
pub mod Dollars
