-- Laws behind the proofs of the functions.
pub mod Angles
pub mod Search
pub mod Chunks
pub mod Stores
pub mod Rows
pub mod Squares
pub mod Tolerance
pub mod Sizes
