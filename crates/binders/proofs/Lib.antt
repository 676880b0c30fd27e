pub mod SlotLaws
pub mod LinkLaws
