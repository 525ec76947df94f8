-- The laws of numbers in decimal.
pub mod Digits
pub mod Columns
