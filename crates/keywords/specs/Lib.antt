pub mod KeptSpellings
pub mod KeptSizes
