pub mod AsBefore
pub mod CallLaws
pub mod CellLaws
pub mod Choosing
pub mod Shows
pub mod Endings
pub mod Unique
