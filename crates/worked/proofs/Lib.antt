pub mod Listed
pub mod GivenBack
