pub mod LawsFields
pub mod IndexLaws
pub mod RememberedLaws
