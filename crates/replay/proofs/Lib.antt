-- Laws on outcomes.
pub mod Told
