pub mod DecimalLaws
pub mod AlikeLaws
pub mod BytesLaws
pub mod BuffersLaws
pub mod Comparing
pub mod Loops
pub mod Writes
