pub mod CaseLaws
pub mod TallyLaws
