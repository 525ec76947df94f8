-- Radar lists in one go: document 02, Paper 1. Definitions only.
pub mod Lists
pub mod Uses
