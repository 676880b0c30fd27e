pub mod LengthLaws
pub mod OwnLaws
