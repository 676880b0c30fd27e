pub mod Given
pub mod Built
pub mod Heads
pub mod Stack
pub mod Flat
