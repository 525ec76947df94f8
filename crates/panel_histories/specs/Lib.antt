-- The caption panel over every list of host writes, steps and other calls: document 02, Paper 11. Definitions only.
pub mod Events
pub mod EveryPanel
