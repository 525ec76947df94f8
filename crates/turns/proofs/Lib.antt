-- Laws behind the proofs of the functions, here and in crate `fair_turns`, and the theorems about the grants.
pub mod Rounds
pub mod Level
pub mod Passes
pub mod Theorem
pub mod Sums
pub mod TwoTurns
pub mod Consequences
