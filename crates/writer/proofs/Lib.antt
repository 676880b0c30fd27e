pub mod Pieces
pub mod WriteLaws
pub mod BeginningLaws
pub mod PoolLaws
pub mod SpellLaws
