-- Laws behind the proofs of the functions.
pub mod BuiltIn
pub mod BuiltInPasses
pub mod Chunks
pub mod NoOrigin
pub mod Numbers
pub mod Check
pub mod Filled
pub mod Sizes
