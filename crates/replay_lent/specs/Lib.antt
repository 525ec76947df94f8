pub mod Lists
pub mod Regions
