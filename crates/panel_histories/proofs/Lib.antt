-- The caption panel over every list of events.
pub mod Theorem
pub mod Consequences
