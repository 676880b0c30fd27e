pub mod FitLaws
pub mod OpeningLaws
pub mod PatternLaws
pub mod TextRoomLaws
