pub mod LayingLaws
pub mod ReadingLaws
