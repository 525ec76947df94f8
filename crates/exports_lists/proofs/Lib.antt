-- Laws behind the proofs of the C functions.
pub mod TableLength
