pub mod GivenBlocks
pub mod ElaboratedTexts
pub mod FrontBytes
pub mod Walked
pub mod Productions
pub mod TextOffsets
pub mod CompletePlaces
pub mod SourceTheorems
