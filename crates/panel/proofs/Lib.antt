-- Laws of the registers, and what holds of every step.
pub mod Blocks
pub mod Passed
pub mod EveryStep
