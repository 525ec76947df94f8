-- Laws behind the proofs of the functions.
pub mod RootBits
pub mod Marked
pub mod Mask
pub mod Round
