pub mod VariableLaws
pub mod TemplateLaws
pub mod StackLaws
pub mod BuildLaws
pub mod FlatLaws
pub mod ArgumentLaws
