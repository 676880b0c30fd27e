pub mod PrintedParts
