pub mod Portions
pub mod Portioned
pub mod Lists
