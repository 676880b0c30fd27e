pub mod FollowLaws
pub mod Laws
pub mod LawsTemplates
