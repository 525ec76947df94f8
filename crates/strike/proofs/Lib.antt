-- Laws behind the proofs of the functions.
mod Together
