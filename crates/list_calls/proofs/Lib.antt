-- Laws behind the proofs of the functions.
pub mod Loop
pub mod WholeRegion
