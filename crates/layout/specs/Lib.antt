pub mod Index
pub mod Before
