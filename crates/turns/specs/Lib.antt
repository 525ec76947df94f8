-- Fair turns for sixteen channels: document 02, Paper 12. Definitions only.
pub mod Turns
pub mod Levels
pub mod Fair
