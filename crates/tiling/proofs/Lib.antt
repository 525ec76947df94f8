-- Laws behind the proofs of the functions, and of the triangle index.
pub mod Figure
pub mod Modulo
pub mod Sizes
