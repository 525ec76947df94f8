-- Laws behind the proofs of the functions.
pub mod Worked
pub mod Ended
pub mod Steps
pub mod Sizes
