-- What is copied from an array to a lent slice. Definitions only.
pub mod Copies
