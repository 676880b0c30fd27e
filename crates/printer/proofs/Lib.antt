pub mod BoundLaws
pub mod TextLaws
