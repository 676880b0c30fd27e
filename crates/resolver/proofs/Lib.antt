pub mod CountLaws
pub mod LooseLaws
pub mod NumberLaws
pub mod QuietLaws
pub mod ResolvedLaws
