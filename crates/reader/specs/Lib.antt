pub mod Words
pub mod TextAnswers
pub mod TextRuns
pub mod TextReadings
pub mod Storing
