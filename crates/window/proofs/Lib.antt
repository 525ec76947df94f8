-- What the proofs of this crate share, and the theorem over every list of additions.
pub mod Loops
pub mod Ways
pub mod Recent
pub mod Counted
pub mod RingStrikes
pub mod Theorem
pub mod Consequences
