pub mod Expand
pub mod Each
pub mod Origins
pub mod Meaning
pub mod Naming
pub mod Hygiene
