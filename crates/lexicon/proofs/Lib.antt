pub mod HashLaws
pub mod PlaceLaws
pub mod PathLaws
pub mod TreeLaws
pub mod LexiconLaws
pub mod SortLaws
