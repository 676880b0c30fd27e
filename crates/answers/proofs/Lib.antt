pub mod OkLaws
