pub mod ListLaws
pub mod RowLaws
pub mod SumLaws
pub mod SizeLaws
