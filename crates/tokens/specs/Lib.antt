pub mod Scanned
pub mod Tokens
pub mod Variables
pub mod Scan
pub mod Tiling
pub mod Unscanned
