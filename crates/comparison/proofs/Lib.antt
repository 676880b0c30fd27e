pub mod ComparingLaws
