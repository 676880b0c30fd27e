pub mod BeginLaws
pub mod TurnLaws
