-- What the functions of the root and of its digits hand to each other. Definitions only; the square root's is in crate arithmetic.
pub mod Root
pub mod Digits
