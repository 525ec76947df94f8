-- The authalic series as a sum, and ranges that answers and angles stay in.
pub mod Series
pub mod Passed
pub mod Longitude
pub mod Sizes
