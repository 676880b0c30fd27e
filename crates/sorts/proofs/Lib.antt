pub mod StepLaws
pub mod PlacedFields
pub mod HeadsByBytes
pub mod CollectByBytes
pub mod BodiesByBytes
pub mod SortedBytes
pub mod BlocksBefore
