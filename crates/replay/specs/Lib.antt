pub mod Outcome
pub mod Record
