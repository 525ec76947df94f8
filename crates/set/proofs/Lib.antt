-- Laws behind the proofs of the functions.
pub mod Lengths
pub mod Front
pub mod Opening
