-- Laws behind the proofs of the functions.
pub mod Unmoved
pub mod Slots
pub mod Numbered
pub mod Loops
pub mod Surveyed
pub mod Whole
pub mod Consequences
