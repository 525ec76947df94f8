-- What the proofs of this crate share, and the theorems.
pub mod Lines
pub mod Columns
pub mod Theorem
