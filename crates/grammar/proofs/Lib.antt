pub mod LookupLaws
pub mod ReaderLaws
pub mod SortLaws
