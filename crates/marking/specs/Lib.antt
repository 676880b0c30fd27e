pub mod Marks
pub mod RowMarks
pub mod Walks
