pub mod PreparedLaws
pub mod HeadTests
pub mod ResultsAside
pub mod FieldsBefore
pub mod BytesBefore
pub mod UnderLaws
pub mod TextStepLaws
