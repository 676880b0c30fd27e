pub mod FewAlternatives
pub mod IndexLaws
pub mod NormalizedByFields
pub mod Places
pub mod RoomLaws
pub mod RoomPatterns
pub mod RoomWriting
pub mod SymbolLaws
