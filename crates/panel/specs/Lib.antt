-- The caption panel: document 02, Paper 11. Definitions only.
pub mod Registers
pub mod Step
pub mod Results
pub mod EveryStep
